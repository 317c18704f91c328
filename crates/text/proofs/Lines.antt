-- The parts of a text between separators: a line's parts are its numbers, and the parts of lines that are written one after another are
-- the lines.
-- Assumes nothing.
use mathlib.Core.Path.{◌≡◌, refl, ap, ◌∙◌}
use mathlib.Core.Bool.{Bool, true, false, cond}
use mathlib.Core.List.{List, [], ◌∷◌, ◌++◌, map, append-nil}
use Prim.Native.Nat.{ℕ}
use native.Mathlib.Omega.{arith}
use lib.Dec.{eqb}
use borrow.Author.Tests.{eq-eqb, ne_eqb, eqb-true}
use Rattle.text.specs.Decimal.{decimal, value_of}
use Rattle.text.specs.Parts.{space, line_feed, spaced, line, longer, split}
use Rattle.text.proofs.Each.{Each, each_append, each_weaker}
use Rattle.text.proofs.Digits.{Digit, decimal_digits, value_decimal}

-- ---- Parts without the separator

-- A text in which a byte does not stand.
abbrev pub Without : ℕ → List ℕ → Type 0
Without c text = Each (λ b. b ≡ c → ⊥) text

split_whole : (c : ℕ) (p : List ℕ) → Without c p → split c p ≡ p ∷ []
unfolding split
split_whole c [] w = refl
split_whole c (b ∷ p) w = rw (ne_eqb b c w.0, split_whole c p w.1)

-- ---- Parts before and after a separator

-- There is at least one part.
pub split_some : (c : ℕ) (text : List ℕ) → split c text ≡ [] → ⊥
unfolding split
split_some c [] e = let z : ◌≡◌ {A = ℕ} 0 1 = cc in omega arith
split_some c (b ∷ bs) e = by (eqb b c) (split c bs) (split_some c bs) e where
  by : (t : Bool) (ps : List (List ℕ)) → (ps ≡ [] → ⊥) → cond t ([] ∷ ps) (longer b ps) ≡ [] → ⊥
  by true ps s e = let z : ◌≡◌ {A = ℕ} 0 1 = cc in omega arith
  by false [] s e = s refl
  by false (p ∷ ps) s e = let z : ◌≡◌ {A = ℕ} 0 1 = cc in omega arith

longer_append : (b : ℕ) (ps qs : List (List ℕ)) → (ps ≡ [] → ⊥) → longer b (ps ++ qs) ≡ longer b ps ++ qs
longer_append b [] qs s = absurd (s refl)
longer_append b (p ∷ ps) qs s = refl

-- A separator stands between the parts before it and those after it.
pub split_between : (c : ℕ) (text rest : List ℕ) → split c (text ++ (c ∷ rest)) ≡ split c text ++ split c rest
unfolding split
split_between c [] rest = rw (eq-eqb c c refl)
split_between c (b ∷ text) rest = by (eqb b c) (split_between c text rest) where
  by : (t : Bool) → split c (text ++ (c ∷ rest)) ≡ split c text ++ split c rest
      → cond t ([] ∷ split c (text ++ (c ∷ rest))) (longer b (split c (text ++ (c ∷ rest))))
      ≡ cond t ([] ∷ split c text) (longer b (split c text)) ++ split c rest
  by true e = rw e
  by false e = rw e (longer_append b (split c text) (split c rest) (split_some c text))

pub split_ended : (c : ℕ) (p rest : List ℕ) → Without c p → split c (p ++ (c ∷ rest)) ≡ p ∷ split c rest
split_ended c p rest w = split_between c p rest ∙ rw (split_whole c p w)

-- ---- A line

digits_without : (c n : ℕ) → (Digit c → ⊥) → Without c (decimal n)
digits_without c n other = each_weaker Digit (λ b. b ≡ c → ⊥) (λ b d e. other (rw e at d)) (decimal n) (decimal_digits n)

no_space : (n : ℕ) → Without space (decimal n)
no_space n = digits_without space n (λ d. omega arith)

no_feed_in : (n : ℕ) → Without line_feed (decimal n)
no_feed_in n = digits_without line_feed n (λ d. omega arith)

-- The parts of a line are its numbers' digits.
split_line : (n : ℕ) (ns : List ℕ) → split space (line n ns) ≡ decimal n ∷ map decimal ns
unfolding spaced
split_line n [] = rw (append-nil (decimal n)) (split_whole space (decimal n) (no_space n))
split_line n (m ∷ ns) = split_ended space (decimal n) (line m ns) (no_space n) ∙ ap (λ (ps : List (List ℕ)). decimal n ∷ ps) (split_line m ns)

values_map : (ns : List ℕ) → map value_of (map decimal ns) ≡ ns
values_map [] = refl
values_map (n ∷ ns) = rw (value_decimal n, values_map ns)

-- A line gives its numbers back.
pub line_values : (n : ℕ) (ns : List ℕ) → map value_of (split space (line n ns)) ≡ n ∷ ns
line_values n ns = rw (split_line n ns, value_decimal n, values_map ns)

spaced_no_feed : (ns : List ℕ) → Without line_feed (spaced ns)
unfolding spaced
spaced_no_feed [] = tt
spaced_no_feed (n ∷ ns) = (λ e. omega arith, each_append _ (decimal n) (spaced ns) (no_feed_in n) (spaced_no_feed ns))

-- No line feed stands in a line, so the line feed after it ends it.
pub no_feed : (n : ℕ) (ns : List ℕ) → Without line_feed (line n ns)
no_feed n ns = each_append _ (decimal n) (spaced ns) (no_feed_in n) (spaced_no_feed ns)

-- ---- Parts and the text

-- The parts with a separator between each two of them.
abbrev pub joined_by : ℕ → List (List ℕ) → List ℕ
joined_by c [] = []
joined_by c (p ∷ []) = p
joined_by c (p ∷ q ∷ ps) = p ++ (c ∷ joined_by c (q ∷ ps))

longer_joined : (c b : ℕ) (ps : List (List ℕ)) → (ps ≡ [] → ⊥) → joined_by c (longer b ps) ≡ b ∷ joined_by c ps
longer_joined c b [] s = absurd (s refl)
longer_joined c b (p ∷ []) s = refl
longer_joined c b (p ∷ q ∷ ps) s = refl

-- The parts give the text back.
pub split_joined : (c : ℕ) (text : List ℕ) → joined_by c (split c text) ≡ text
unfolding split
split_joined c [] = refl
split_joined c (b ∷ bs) = by (eqb b c) refl (split c bs) (split_some c bs) (split_joined c bs) where
  by : (t : Bool) → eqb b c ≡ t → (ps : List (List ℕ)) → (ps ≡ [] → ⊥) → joined_by c ps ≡ bs → joined_by c (cond t ([] ∷ ps) (longer b ps)) ≡ b ∷ bs
  by true e [] s h = absurd (s refl)
  by true e (p ∷ ps) s h = rw (h, eqb-true b c e)
  by false e ps s h = rw (longer_joined c b ps s, h)
