-- Printing bytes and cells, one after the other.
use Rattle.std.proofs.Common.{◌≡◌, ℕ, ◌+◌, ◌/◌, ◌%◌, ◌<◌, ◌≤◌, List, [], ◌∷◌, ◌++◌, drop, length, get_or, sym, ap, ◌∙◌, append_assoc, append-nil, add-one}
use Rattle.std.specs.Prelude.{slice_index}
use Rattle.std.proofs.Math.Seq.{drop-cons}
use Rattle.std.proofs.lemmas.List.{drop_all, drop_more}
use Rattle.hex.specs.Hex.{encode_lower, encode_with}
use Rattle.cell_model.specs.declared.row.ListLine.{ListLine}
use Rattle.cell_listing.specs.Grammar.{cells_text, digit_of, line_text}

-- one more byte was printed, and more makes the rest
pub word_on : (text new more bytes : List ℕ) (i : ℕ) → i < length bytes → text ++ encode_lower (drop i bytes) ≡ more → new ≡ text ++ digit_of (slice_index bytes i / 16) ∷ digit_of (slice_index bytes i % 16) ∷ [] → new ++ encode_lower (drop (i + 1) bytes) ≡ more
unfolding encode_with
word_on text new more bytes i lt before e =
    let rest : drop i bytes ≡ slice_index bytes i ∷ drop (i + 1) bytes = drop-cons bytes i 0 lt ∙ ap (λ k. get_or bytes i 0 ∷ drop k bytes) (sym (add-one i)) in
    ap (λ xs. xs ++ encode_lower (drop (i + 1) bytes)) e ∙ append_assoc text (digit_of (slice_index bytes i / 16) ∷ digit_of (slice_index bytes i % 16) ∷ []) (encode_lower (drop (i + 1) bytes))
    ∙ ap (λ xs. text ++ xs) (sym (ap encode_lower rest)) ∙ before

pub word_end : (text more bytes : List ℕ) (i : ℕ) → length bytes ≤ i → text ++ encode_lower (drop i bytes) ≡ more → text ≡ more
unfolding encode_with
word_end text more bytes i end before = sym (ap (λ xs. text ++ encode_lower xs) (drop_all i bytes end) ∙ append-nil text) ∙ before

pub cells_on : (text new more : List ℕ) (cells : List ListLine) (i : ℕ) (c : ListLine) → i < length cells → c ≡ get_or cells i c → text ++ cells_text (drop i cells) ≡ more → new ≡ text ++ (line_text c ++ 10 ∷ []) → new ++ cells_text (drop (i + 1) cells) ≡ more
cells_on text new more cells i c lt is before e =
    let rest : drop i cells ≡ c ∷ drop (i + 1) cells = drop_more cells i c lt ∙ (λ t. sym is t ∷ drop (i + 1) cells) in
    ap (λ xs. xs ++ cells_text (drop (i + 1) cells)) e ∙ append_assoc text (line_text c ++ 10 ∷ []) (cells_text (drop (i + 1) cells)) ∙ ap (λ xs. text ++ xs) (sym (ap cells_text rest)) ∙ before

pub cells_end : (text more : List ℕ) (cells : List ListLine) (i : ℕ) → length cells ≤ i → text ++ cells_text (drop i cells) ≡ more → text ≡ more
cells_end text more cells i end before = sym (ap (λ (cs : List ListLine). text ++ cells_text cs) (drop_all i cells end) ∙ append-nil text) ∙ before
