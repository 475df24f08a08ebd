-- The lines of bytes whose first LF is known.
use Rattle.std.proofs.Common.{◌≡◌, ℕ, ◌+◌, ◌<◌, ◌≤◌, Bool, true, false, cond, List, [], ◌∷◌, ◌++◌, length, take, drop, refl, sym, ap, subst, ◌∙◌, append_assoc, arith}
use Rattle.std.specs.Prelude.{nat_eq, ◌||◌, slice_index}
use Rattle.std.proofs.lemmas.List.{take-append-drop, length-take-le}
use Rattle.std.proofs.Math.Seq.{drop-cons}
use Rattle.std.proofs.Common.{add-one, get_or}
use Rattle.std.specs.List.{onto_first, slice_split}
use Rattle.line_stream.specs.Lines.{Line, has_line_end, last_line, lines_in, lines_of, whole_line}
use Rattle.line_stream.specs.Reads.{IsFirstTooLong}

pub neither : (a b : Bool) → (a || b) ≡ false → (a ≡ false) × (b ≡ false)
neither true b e = absurd (grind (arith, e))
neither false b e = (refl, e)

-- what stands between LFs
abbrev pieces : List ℕ → List (List ℕ)
pieces bytes = slice_split (λ b. nat_eq b 10) bytes

-- parts are never none
pub record HasParts (parts : List (List ℕ)) : Type 0 where
  pub first : List ℕ
  pub others : List (List ℕ)
  pub is : parts ≡ first ∷ others

onto_has : (b : ℕ) (parts : List (List ℕ)) → HasParts parts → HasParts (onto_first b parts)
onto_has b parts h = record { first = b ∷ h.first; others = h.others; is = ap (onto_first b) h.is }

cond_has : (t : Bool) (xs ys : List (List ℕ)) → HasParts xs → HasParts ys → HasParts (cond t xs ys)
cond_has true xs ys h k = h
cond_has false xs ys h k = k

pub has_parts : (bytes : List ℕ) → HasParts (pieces bytes)
has_parts [] = record { first = []; others = []; is = refl }
has_parts (b ∷ bytes) = cond_has (nat_eq b 10) ([] ∷ pieces bytes) (onto_first b (pieces bytes)) (record { first = []; others = pieces bytes; is = refl }) (onto_has b _ (has_parts bytes))

pub parts_line : (line more : List ℕ) → has_line_end line ≡ false → pieces (line ++ 10 ∷ more) ≡ line ∷ pieces more
parts_line [] more none = refl
parts_line (b ∷ line) more none =
    let h = neither (nat_eq b 10) (has_line_end line) none in
    ap (λ t. cond t ([] ∷ pieces (line ++ 10 ∷ more)) (onto_first b (pieces (line ++ 10 ∷ more)))) h.0 ∙ ap (onto_first b) (parts_line line more h.1)

pub parts_rest : (rest : List ℕ) → has_line_end rest ≡ false → pieces rest ≡ rest ∷ []
parts_rest [] none = refl
parts_rest (b ∷ rest) none =
    let h = neither (nat_eq b 10) (has_line_end rest) none in
    ap (λ t. cond t ([] ∷ pieces rest) (onto_first b (pieces rest))) h.0 ∙ ap (onto_first b) (parts_rest rest h.1)

-- a line that an LF ends, and what comes behind it
pub lines_line : (line more : List ℕ) → has_line_end line ≡ false → lines_of (line ++ 10 ∷ more) ≡ whole_line line ∷ lines_of more
lines_line line more none =
    let h = has_parts more in
    ap lines_in (parts_line line more none ∙ ap (λ parts. line ∷ parts) h.is) ∙ ap (λ parts. whole_line line ∷ lines_in parts) (sym h.is)

-- no LF
pub lines_rest : (rest : List ℕ) → has_line_end rest ≡ false → lines_of rest ≡ last_line rest ∷ []
lines_rest rest none = ap lines_in (parts_rest rest none)

-- the first line has all that comes before the first LF
pub record Begins (rest : List ℕ) (lines : List Line) : Type 0 where
  pub line : Line
  pub others : List Line
  pub is : lines ≡ line ∷ others
  pub long : length rest ≤ length line.bytes

pub record BeginsParts (rest : List ℕ) (parts : List (List ℕ)) : Type 0 where
  pub first : List ℕ
  pub others : List (List ℕ)
  pub is : parts ≡ first ∷ others
  pub long : length rest ≤ length first

begins_parts : (rest more : List ℕ) → has_line_end rest ≡ false → BeginsParts rest (pieces (rest ++ more))
begins_parts [] more none = let h = has_parts more in record { first = h.first; others = h.others; is = h.is; long = omega arith }
begins_parts (b ∷ rest) more none =
    let h = neither (nat_eq b 10) (has_line_end rest) none in
    let r = begins_parts rest more h.1 in
    record {
      first = b ∷ r.first;
      others = r.others;
      is = ap (λ t. cond t ([] ∷ pieces (rest ++ more)) (onto_first b (pieces (rest ++ more)))) h.0 ∙ ap (onto_first b) r.is;
      long = (let l = r.long in omega (arith, l));
    }

begins_lines : (rest first : List ℕ) (others : List (List ℕ)) → length rest ≤ length first → Begins rest (lines_in (first ∷ others))
begins_lines rest first [] long = record { line = last_line first; others = []; is = refl; long = long }
begins_lines rest first (part ∷ parts) long = record { line = whole_line first; others = lines_in (part ∷ parts); is = refl; long = long }

pub begins : (rest more : List ℕ) → has_line_end rest ≡ false → Begins rest (lines_of (rest ++ more))
begins rest more none =
    let b = begins_parts rest more none in
    subst (λ parts. Begins rest (lines_in parts)) (sym b.is) (begins_lines rest b.first b.others b.long)

-- bytes cut round an LF
pub cut_at : (xs : List ℕ) (n : ℕ) → n < length xs → slice_index xs n ≡ 10 → xs ≡ take n xs ++ 10 ∷ drop (n + 1) xs
cut_at xs n lt ten =
    sym (take-append-drop n xs) ∙ ap (λ t. take n xs ++ t) (drop-cons xs n 0 lt ∙ ap (λ k. get_or xs n 0 ∷ drop k xs) (sym (add-one n)) ∙ ap (λ b. b ∷ drop (n + 1) xs) ten)

pub lines_cut : (xs more : List ℕ) (n : ℕ) → n < length xs → has_line_end (take n xs) ≡ false → slice_index xs n ≡ 10 → lines_of (xs ++ more) ≡ whole_line (take n xs) ∷ lines_of (drop (n + 1) xs ++ more)
lines_cut xs more n lt none ten =
    ap lines_of (ap (λ t. t ++ more) (cut_at xs n lt ten) ∙ append_assoc (take n xs) (10 ∷ drop (n + 1) xs) more) ∙ lines_line (take n xs) (drop (n + 1) xs ++ more) none

-- a first line that is too long, with its LF or without
pub long_line : (longest : ℕ) (xs more : List ℕ) (n : ℕ) → n < length xs → has_line_end (take n xs) ≡ false → slice_index xs n ≡ 10 → longest < n → IsFirstTooLong longest (lines_of (xs ++ more))
long_line longest xs more n lt none ten long = record {
  line = whole_line (take n xs);
  others = lines_of (drop (n + 1) xs ++ more);
  is = lines_cut xs more n lt none ten;
  long = (let l = length-take-le n xs (omega (arith, lt)) in omega (arith, l, long));
}

pub long_front : (longest : ℕ) (xs more : List ℕ) → has_line_end xs ≡ false → longest < length xs → IsFirstTooLong longest (lines_of (xs ++ more))
long_front longest xs more none long = let b = begins xs more none in record { line = b.line; others = b.others; is = b.is; long = (let l = b.long in omega (arith, l, long)) }
