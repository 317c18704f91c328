-- Reading: the file so far and what the rest of the text gives make the whole, at every turn.
-- Assumes nothing.
use Rattle.std.proofs.Common.{Option, Some, None, Ok}
use Rattle.text.proofs.Stores.{front}
use Rattle.listing.proofs.WholeRecords.{read_line, joined_none, joined_join}
use Rattle.text.proofs.Lines.{split_some}
use mathlib.Core.Path.{◌≡◌, refl, sym, ap, ◌∙◌}
use mathlib.Core.Bool.{Bool, true, false, cond}
use mathlib.Core.List.{List, [], ◌++◌, append-nil}
use Prim.Native.Nat.{ℕ, ◌+◌, ◌-◌, ◌≤◌, ◌<◌}
use native.Mathlib.Omega.{arith}
use borrow.Author.Tests.{ltb-true, ltb-false, lt-ltb, le-ltb}
use lib.Dec.{ltb}
use lib.ListN.{length, take, drop, length-append, length-drop, drop_of_length-le}
use lib.Seq.{sets, sets-eq, length-sets, drop-cons, drop-drop, take_at}
use Rattle.format.specs.Records.{longest}
use Rattle.text.specs.Parts.{line_feed, split, first}
use Rattle.text.proofs.Splitting.{split_within, split_part, split_first, split_last}
use Rattle.spelling.specs.Spelling.{line_record, is_line_of, well_formed}
use Rattle.listing.specs.Reading.{Reading, malformed, joined, read_lines, bytes_of}
use Rattle.listing.specs.Inner.Spelt.{counted_on, Holds, Spelt}

none_some : {A : Type 0} {n : ℕ} → ◌≡◌ {A = Option ℕ} None (Some n) → A
none_some e = let z : ◌≡◌ {A = ℕ} 0 1 = cc in absurd (omega arith)

-- ---- A line after the file so far

pub counted_on_is : (count more : ℕ) → longest < count → count ≡ counted_on count more
counted_on_is count more h = rw (lt-ltb longest count h)

pub counted_more : (count more : ℕ) → count ≤ longest → count + more ≡ counted_on count more
counted_more count more h = rw (le-ltb longest count h)

module _ (l zeros bytes : List ℕ) (size : ℕ)
    (e : bytes ≡ sets zeros 0 (line_record l)) (es : size ≡ length (line_record l)) (hs : size ≤ 128) (room : length zeros ≡ 128) where
  record_held : take size bytes ≡ line_record l
  record_held = front zeros bytes (line_record l) size e es (omega (arith, es, hs, room))

  module _ (b : Bool) (eb : b ≡ is_line_of (take size bytes) l) where
    line_is : b ≡ well_formed l
    line_is = eb ∙ ap (λ (x : List ℕ). is_line_of x l) record_held

    pub line_refused_size : b ≡ false → None ≡ cond (well_formed l) (Some (length (line_record l))) None
    line_refused_size f = rw (← line_is, f)

    pub line_refused_file : (file : List ℕ) (at : ℕ) → b ≡ false → file ≡ cond (well_formed l) (sets file at (line_record l)) file
    line_refused_file file at f = rw (← line_is, f)

    pub line_taken_size : b ≡ true → Some size ≡ cond (well_formed l) (Some (length (line_record l))) None
    line_taken_size f = rw (← line_is, f, es)

    pub line_taken_file : (file after : List ℕ) (at : ℕ)
        → b ≡ true
        → after ≡ sets file at (take size bytes)
        → after ≡ cond (well_formed l) (sets file at (line_record l)) file
    line_taken_file file after at f ea = ea ∙ rw (record_held, ← line_is, f)

-- ---- The lines of a text

-- The bytes of the lines before a place, held by the array, and what the text from there on gives make what the text gives.
pub record TextLeft (text array : List ℕ) (at count : ℕ) : Type 0 where
  pub done : List ℕ
  pub whole : joined done (read_lines at (split line_feed (drop at text))) ≡ bytes_of text
  pub holds : Holds done count array
  pub within : at ≤ length text
  pub room : length array ≡ longest

pub text_start : (text array : List ℕ) → length array ≡ longest → TextLeft text array 0 0
unfolding bytes_of
text_start text array room =
    record {
      done = [];
      whole = joined_none (read_lines 0 (split line_feed text));
      holds = record { counted = λ h. refl; held = λ h. refl; past = λ h. absurd (omega arith) };
      within = omega arith;
      room = room;
    }

module _ (done r array after : List ℕ) (count more : ℕ) (s : Holds done count array) (room : length array ≡ longest) (ea : after ≡ sets array count r)
    (em : more ≡ counted_on count (length r)) where
  fits : length (done ++ r) ≤ longest → length done ≤ longest
  fits h = omega (arith, h, length-append done r)

  more_is : length (done ++ r) ≤ longest → more ≡ length (done ++ r)
  more_is h =
      let c : count ≡ length done = s.counted (fits h) in
      let small : count ≤ longest = omega (arith, c, fits h) in
      em ∙ sym (counted_more count (length r) small) ∙ rw c (sym (length-append done r))

  front_held : length (done ++ r) ≤ longest → take (length (done ++ r)) after ≡ done ++ r
  front_held h =
      let c : count ≡ length done = s.counted (fits h) in
      let room_for : length done + length r ≤ length array = omega (arith, h, length-append done r, room) in
      rw (ea, c, sets-eq r array (length done) room_for, s.held (fits h))
      (take_at (done ++ r) (drop (length done + length r) array) (length (done ++ r)) refl)

  past_both : longest < length (done ++ r) → longest < more
  past_both h = on (ltb longest (length done)) refl
    where
      on : (t : Bool) → ltb longest (length done) ≡ t → longest < more
      on true p =
          let far : longest < count = s.past (ltb-true longest (length done) p) in
          omega (arith, em ∙ sym (counted_on_is count (length r) far), far)
      on false p =
          let near : length done ≤ longest = ltb-false longest (length done) p in
          let small : count ≤ longest = omega (arith, s.counted near, near) in
          omega (arith, em ∙ sym (counted_more count (length r) small), s.counted near, h, length-append done r)

  holds_next : Holds (done ++ r) more after
  holds_next = record { counted = more_is; held = front_held; past = past_both }

module _ (text array : List ℕ) (at count : ℕ) (s : TextLeft text array at count) (rest l : List ℕ) (er : rest ≡ drop at text) (el : l ≡ first (split line_feed rest)) where
  length_rest : length rest ≡ length text - at
  length_rest = ap length er ∙ length-drop at text

  left_is : joined s.done (read_lines at (split line_feed rest)) ≡ bytes_of text
  left_is = ap (λ (x : List ℕ). joined s.done (read_lines at (split line_feed x))) er ∙ s.whole

  -- The last line has no line feed.
  pub text_cut : at < length text → length l ≡ length rest → bytes_of text ≡ malformed at
  unfolding read_lines
  text_cut h e =
      sym left_is ∙ ap (λ (ps : List (List ℕ)). joined s.done (read_lines at ps)) (split_last line_feed rest (length l) (ap length el) e)
      ∙ rw (er, drop-cons text at 0 h)

  module _ (f : length l ≡ length rest → ⊥) where
    shorter : length l < length rest
    shorter = omega (arith, f, split_within line_feed rest (length l) (ap length el))

    line_fits : at + length l + 1 ≤ length text
    line_fits = omega (arith, shorter, length_rest)

    line_first : read_lines at (split line_feed rest)
        ≡ cond (well_formed l) (joined (line_record l) (read_lines (at + length l + 1) (split line_feed (drop (at + length l + 1) text)))) (malformed at)
    line_first =
        let is : take (length l) rest ≡ l = split_part line_feed rest (length l) (ap length el) ∙ sym el in
        let sum : at + (length l + 1) ≡ at + length l + 1 = omega arith in
        let next : drop (length l + 1) rest ≡ drop (at + length l + 1) text =
        ap (λ (x : List ℕ). drop (length l + 1) x) er ∙ drop-drop (length l + 1) at text ∙ ap (λ (k : ℕ). drop k text) sum in
        ap (λ (ps : List (List ℕ)). read_lines at ps) (split_first line_feed rest (length l) (ap length el) shorter)
        ∙ rw (is, next) (read_line at l (split line_feed (drop (at + length l + 1) text)) (split_some line_feed (drop (at + length l + 1) text)))

    -- It is no record's.
    pub text_malformed : None ≡ cond (well_formed l) (Some (length (line_record l))) None → bytes_of text ≡ malformed at
    text_malformed e = on (well_formed l) refl
      where
        on : (t : Bool) → well_formed l ≡ t → bytes_of text ≡ malformed at
        on true p = none_some (rw p at e)
        on false p =
            let bad : read_lines at (split line_feed rest) ≡ malformed at = line_first ∙ rw p in
            sym left_is ∙ ap (λ (r : Reading). joined s.done r) bad

    pub kept_room : (kept : List ℕ) → kept ≡ cond (well_formed l) (sets array count (line_record l)) array → length kept ≡ longest
    kept_room kept ek = on (well_formed l) refl
      where
        on : (t : Bool) → well_formed l ≡ t → length kept ≡ longest
        on true p =
            let put : kept ≡ sets array count (line_record l) = ek ∙ rw p in
            rw put (length-sets array count (line_record l) ∙ s.room)
        on false p =
            let put : kept ≡ array = ek ∙ rw p in
            rw put s.room

    pub text_next : (size more : ℕ) (kept : List ℕ)
        → Some size ≡ cond (well_formed l) (Some (length (line_record l))) None
        → kept ≡ cond (well_formed l) (sets array count (line_record l)) array
        → more ≡ counted_on count size
        → TextLeft text kept (at + (length l + 1)) more
    text_next size more kept es ek em = on (well_formed l) refl
      where
        sum : at + (length l + 1) ≡ at + length l + 1
        sum = omega arith

        on : (t : Bool) → well_formed l ≡ t → TextLeft text kept (at + (length l + 1)) more
        on true p =
            let r : List ℕ = line_record l in
            let others : Reading = read_lines (at + length l + 1) (split line_feed (drop (at + length l + 1) text)) in
            let good : read_lines at (split line_feed rest) ≡ joined r others = line_first ∙ rw p in
            let put : kept ≡ sets array count r = ek ∙ rw p in
            let some : ◌≡◌ {A = Option ℕ} (Some size) (Some (length r)) = es ∙ rw p in
            let long : size ≡ length r = cc in
            rw sum
            (record {
              done = s.done ++ r;
              whole = sym (joined_join s.done r others) ∙ rw (← good) left_is;
              holds = holds_next s.done r array kept count more s.holds s.room put (em ∙ rw long);
              within = line_fits;
              room = kept_room kept ek;
            })
        on false p = none_some (sym (rw p at es))

pub text_done : (text array : List ℕ) (at count : ℕ) → TextLeft text array at count → length text ≤ at → Spelt (Ok count) array (bytes_of text)
unfolding read_lines split
text_done text array at count s h =
    let gone : drop at text ≡ [] = drop_of_length-le text h in
    (s.done, sym s.whole ∙ rw (gone, append-nil s.done), s.holds)
