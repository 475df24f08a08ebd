-- What is printed of a cell tells this cell.
use Rattle.std.proofs.Common.{◌≡◌, ℕ, ◌/◌, ◌%◌, ◌<◌, ◌≤◌, suc, true, false, cond, List, [], ◌∷◌, ◌++◌, length, refl, ap, ◌∙◌, arith, le-ltb, lt-ltb}
use Rattle.std.specs.Prelude.{None, Some, nat_eq, slice_index}
use Rattle.std.specs.List.{list_all, list_any, onto_first}
use Rattle.std.proofs.lemmas.Bool.{agree_below_at, and_from, or_from, or_parts}
use Rattle.hex.specs.Hex.{IsBytes, decode_of, encode_lower, encode_with, lower_digits}
use Rattle.hex.proofs.HexLemmas.{decode_of-encode_lower, length-encode_with}
use Rattle.row_key.specs.declared.tables.Table.{Table}
use Rattle.row_key.specs.declared.tables.Table.TheVariants.{Ids, Names, Points}
use Rattle.cell_listing.specs.Cuts.{parts_by}
use Rattle.cell_listing.specs.Grammar.{bytes_in, cell_by, cell_with, four_of, if_read, is_lower_digit, line_text, table_named, table_word}
use Rattle.cell_listing.specs.Laws.{LinesReadBack}
use Rattle.cell_listing.specs.declared.listing_line.TheConstants.{LONGEST_LISTED}

-- ---- digits

digit_at : (d : ℕ) → d < 16 → is_lower_digit (slice_index lower_digits d) ≡ true
digit_at d lt = agree_below_at (λ d. is_lower_digit (slice_index lower_digits d)) (λ _. true) 16 d refl lt

no_space_at : (d : ℕ) → d < 16 → nat_eq (slice_index lower_digits d) 32 ≡ false
no_space_at d lt = agree_below_at (λ d. nat_eq (slice_index lower_digits d) 32) (λ _. false) 16 d refl lt

all_digits : (xs : List ℕ) → IsBytes xs → list_all is_lower_digit (encode_with lower_digits xs) ≡ true
unfolding encode_with
all_digits [] h = refl
all_digits (b ∷ xs) h =
    let fits : b < 256 = h 0 in
    and_from _ _ (digit_at (b / 16) (omega (arith, fits))) (and_from _ _ (digit_at (b % 16) (omega arith)) (all_digits xs (λ k. h (suc k))))

no_spaces : (xs : List ℕ) → IsBytes xs → list_any (λ b. nat_eq b 32) (encode_with lower_digits xs) ≡ false
unfolding encode_with
no_spaces [] h = refl
no_spaces (b ∷ xs) h =
    let fits : b < 256 = h 0 in
    or_from _ _ (no_space_at (b / 16) (omega (arith, fits))) (or_from _ _ (no_space_at (b % 16) (omega arith)) (no_spaces xs (λ k. h (suc k))))

bytes_back : (xs : List ℕ) → IsBytes xs → 1 ≤ length xs → bytes_in (encode_lower xs) ≡ Some xs
bytes_back xs h some =
    let long = length-encode_with lower_digits xs in
    ap (λ b. cond b (if_read (decode_of (encode_lower xs))) None) (and_from _ _ (lt-ltb 0 (length (encode_lower xs)) (omega (arith, long, some))) (all_digits xs h))
    ∙ ap if_read (decode_of-encode_lower xs h)

-- ---- words

no_space_in : (t : Table) → list_any (λ b. nat_eq b 32) (table_word t) ≡ false
no_space_in Ids = refl
no_space_in Names = refl
no_space_in Points = refl

table_back : (t : Table) → table_named (table_word t) ≡ Some t
table_back Ids = refl
table_back Names = refl
table_back Points = refl

parts_word : (word more : List ℕ) → list_any (λ b. nat_eq b 32) word ≡ false → parts_by 32 (word ++ 32 ∷ more) ≡ word ∷ parts_by 32 more
parts_word [] more none = refl
parts_word (b ∷ word) more none =
    let h = or_parts (nat_eq b 32) (list_any (λ b. nat_eq b 32) word) none in
    ap (λ t. cond t ([] ∷ parts_by 32 (word ++ 32 ∷ more)) (onto_first b (parts_by 32 (word ++ 32 ∷ more)))) h.0 ∙ ap (onto_first b) (parts_word word more h.1)

parts_end : (word : List ℕ) → list_any (λ b. nat_eq b 32) word ≡ false → parts_by 32 word ≡ word ∷ []
parts_end [] none = refl
parts_end (b ∷ word) none =
    let h = or_parts (nat_eq b 32) (list_any (λ b. nat_eq b 32) word) none in
    ap (λ t. cond t ([] ∷ parts_by 32 word) (onto_first b (parts_by 32 word))) h.0 ∙ ap (onto_first b) (parts_end word h.1)

pub lines_read_back : LinesReadBack
lines_read_back l p =
    ap (λ b. cond b None (cell_by (four_of (parts_by 32 (line_text l))))) (le-ltb LONGEST_LISTED (length (line_text l)) p.short)
    ∙ ap (λ (ps : List (List ℕ)). cell_by (four_of ps)) parts
    ∙ (λ i. cell_with (table_back l.table i) (bytes_back l.row p.row.0 p.row.1 i) (bytes_back l.qual p.qual.0 p.qual.1 i) (bytes_back l.value p.value.0 p.value.1 i))
  where
    parts : parts_by 32 (line_text l) ≡ table_word l.table ∷ encode_lower l.row ∷ encode_lower l.qual ∷ encode_lower l.value ∷ []
    parts =
        parts_word (table_word l.table) (encode_lower l.row ++ 32 ∷ (encode_lower l.qual ++ 32 ∷ encode_lower l.value)) (no_space_in l.table)
        ∙ ap (λ (ps : List (List ℕ)). table_word l.table ∷ ps)
        (parts_word (encode_lower l.row) (encode_lower l.qual ++ 32 ∷ encode_lower l.value) (no_spaces l.row p.row.0)
        ∙ ap (λ (ps : List (List ℕ)). encode_lower l.row ∷ ps)
        (parts_word (encode_lower l.qual) (encode_lower l.value) (no_spaces l.qual p.qual.0)
        ∙ ap (λ (ps : List (List ℕ)). encode_lower l.qual ∷ ps) (parts_end (encode_lower l.value) (no_spaces l.value p.value.0))))
