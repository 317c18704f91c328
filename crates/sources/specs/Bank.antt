-- The bank: what a program reads and never writes, in one array of 5,288 words. CONST i from word 4i, IN i from 4096+4i, IMM i from
-- 4224+4i, and from word 5248 on the bits of the declared sets of CONST and TEMP.
-- Assumes nothing.
use Rattle.std.specs.Prelude.{ℕ, ◌+◌, Bool, false, cond, ◌&&◌, List, eqb, ltb, take, drop}
use Rattle.words.specs.Word.{bit_in}
use Rattle.format.specs.Files.{CONST, TEMP}
use Rattle.sources.specs.Operands.{Env, word_in}

-- n words from `first` on.
abbrev pub part : List ℕ → ℕ → ℕ → List ℕ
part bank first n = take n (drop first bank)

-- "which registers of each file are declared, one bit each" (01, Forms): 1,024 bits for CONST, then 256 for TEMP, of
-- which alone an indirect operand asks.
unfoldable pub declared_in : List ℕ → ℕ → ℕ → Bool
declared_in words f i =
    cond (eqb f CONST) (ltb i 1024 && bit_in words i)
    (cond (eqb f TEMP) (ltb i 256 && bit_in words (1024 + i)) false)

-- What a bank lends to be read.
abbrev pub env_in : List ℕ → Env
env_in bank =
    record {
      constants = word_in (part bank 0 4096);
      inputs = word_in (part bank 4096 128);
      immediates = word_in (part bank 4224 1024);
      declared = declared_in (part bank 5248 40);
    }
