-- The refused elements, and what is written of them.
use Rattle.std.proofs.Common.{◌≡◌, ℕ, ◌+◌, ◌<◌, List, [], ◌∷◌, ◌++◌, map, length, take, get_or, refl, sym, ap, ◌∙◌, true, false, ◌-◌, ◌≤◌, true≢false, append-nil, length-append, arith}
use Rattle.std.specs.Prelude.{Option, None, Some, is_some, Vec}
use Rattle.std.specs.declared.alloc.Global.{Global}
use Rattle.std.proofs.lemmas.Bool.{false≢true}
use Rattle.std.proofs.lemmas.List.{take_more, map-append, length-map, length-take-le}
use Rattle.json_reply.specs.Texts.{listed}
use Rattle.json_reply.proofs.CallerLemmas.{comma_before, one_written}
use Rattle.http_reply.specs.PutReplies.{Outcome, refused_from, refused, failed, stored, error_object, text_of, texts_of}

pub failed_stored : (index : ℕ) (outcomes : List Outcome) → length (refused_from index outcomes) + stored outcomes ≡ length outcomes
failed_stored index [] = refl
failed_stored index (None ∷ outcomes) = let more = failed_stored (index + 1) outcomes in omega (arith, more)
failed_stored index (Some text ∷ outcomes) = let more = failed_stored (index + 1) outcomes in omega (arith, more)

-- one more outcome at the end
pub refused_push : (index : ℕ) (outcomes : List Outcome) (outcome : Outcome) → refused_from index (outcomes ++ outcome ∷ []) ≡ refused_from index outcomes ++ refused_from (index + length outcomes) (outcome ∷ [])
refused_push index [] outcome = ap (λ n. refused_from n (outcome ∷ [])) (omega arith)
refused_push index (None ∷ outcomes) outcome = refused_push (index + 1) outcomes outcome ∙ ap (λ n. refused_from (index + 1) outcomes ++ refused_from n (outcome ∷ [])) (omega arith)
refused_push index (Some text ∷ outcomes) outcome =
    ap (λ xs. (index, text) ∷ xs) (refused_push (index + 1) outcomes outcome ∙ ap (λ n. refused_from (index + 1) outcomes ++ refused_from n (outcome ∷ [])) (omega arith))

-- what was refused up to the next place
pub refused_next : (outs : List (Option (Vec ℕ Global))) (i : ℕ) (outcome : Option (Vec ℕ Global)) → i < length outs → outcome ≡ get_or outs i outcome
    → refused (texts_of (take (i + 1) outs)) ≡ refused (texts_of (take i outs)) ++ refused_from i (text_of outcome ∷ [])
refused_next outs i outcome within is =
    let more = ap texts_of (take_more outs i outcome within ∙ ap (λ x. take i outs ++ x ∷ []) (sym is)) ∙ map-append text_of (take i outs) (outcome ∷ []) in
    let len = length-map (take i outs) text_of ∙ length-take-le i outs (omega (arith, within)) in
    let count : 0 + length (texts_of (take i outs)) ≡ i = omega (arith, len) in
    ap refused more ∙ refused_push 0 (texts_of (take i outs)) (text_of outcome) ∙ ap (λ n. refused (texts_of (take i outs)) ++ refused_from n (text_of outcome ∷ [])) count

-- one that was stored changes nothing
pub stored_next : (outs : List (Option (Vec ℕ Global))) (i : ℕ) (outcome : Option (Vec ℕ Global)) → i < length outs → outcome ≡ get_or outs i outcome → outcome ≡ None
    → refused (texts_of (take (i + 1) outs)) ≡ refused (texts_of (take i outs))
stored_next outs i outcome within is none =
    refused_next outs i outcome within is ∙ ap (λ x. refused (texts_of (take i outs)) ++ refused_from i (text_of x ∷ [])) none ∙ append-nil (refused (texts_of (take i outs)))

-- one that was refused is one more
pub more_refused : (outs : List (Option (Vec ℕ Global))) (i : ℕ) (outcome : Option (Vec ℕ Global)) (text : Vec ℕ Global) → i < length outs → outcome ≡ get_or outs i outcome → outcome ≡ Some text
    → refused (texts_of (take (i + 1) outs)) ≡ refused (texts_of (take i outs)) ++ (i, text.items) ∷ []
more_refused outs i outcome text within is some =
    refused_next outs i outcome within is ∙ ap (λ x. refused (texts_of (take i outs)) ++ refused_from i (text_of x ∷ [])) some

-- one more is counted
pub one_counted : (outs : List (Option (Vec ℕ Global))) (i count : ℕ) (outcome : Option (Vec ℕ Global)) (text : Vec ℕ Global) → i < length outs → outcome ≡ get_or outs i outcome → outcome ≡ Some text
    → count ≡ failed (texts_of (take i outs)) → count + 1 ≡ failed (texts_of (take (i + 1) outs))
one_counted outs i count outcome text within is some count_is =
    ap (λ n. n + 1) count_is ∙ sym (length-append (refused (texts_of (take i outs))) ((i, text.items) ∷ [])) ∙ ap length (sym (more_refused outs i outcome text within is some))

-- one more is written
pub refusal_written : (outs : List (Option (Vec ℕ Global))) (i written : ℕ) (outcome : Option (Vec ℕ Global)) (text : Vec ℕ Global) (old before comma now : List ℕ) → i < length outs → outcome ≡ get_or outs i outcome → outcome ≡ Some text
    → written ≡ failed (texts_of (take i outs)) → before ≡ old ++ listed (map error_object (refused (texts_of (take i outs)))) → comma ≡ before ++ comma_before written → now ≡ comma ++ error_object (i, text.items)
    → now ≡ old ++ listed (map error_object (refused (texts_of (take (i + 1) outs))))
refusal_written outs i written outcome text old before comma now within is some count before_is comma_is now_is =
    let done = refused (texts_of (take i outs)) in
    one_written old (map error_object done) before comma now written (error_object (i, text.items)) before_is (length-map done error_object ∙ sym count) comma_is now_is
    ∙ ap (λ xs. old ++ listed xs) (sym (map-append error_object done ((i, text.items) ∷ []))) ∙ ap (λ xs. old ++ listed (map error_object xs)) (sym (more_refused outs i outcome text within is some))

-- what is counted up to the next place
pub counted : (outs : List (Option (Vec ℕ Global))) (i count now : ℕ) (outcome : Option (Vec ℕ Global)) → i < length outs → outcome ≡ get_or outs i outcome → is_some outcome ≡ true → now ≡ count + 1
    → (count ≡ failed (texts_of (take i outs))) × (count ≤ i) → (now ≡ failed (texts_of (take (i + 1) outs))) × (now ≤ i + 1)
counted outs i count now None within is some now_is so_far = absurd (false≢true some)
counted outs i count now (Some text) within is some now_is so_far =
    let few = so_far.1 in (now_is ∙ one_counted outs i count (Some text) text within is refl so_far.0, omega (arith, few, now_is))

pub passed_over : (outs : List (Option (Vec ℕ Global))) (i count now : ℕ) (outcome : Option (Vec ℕ Global)) → i < length outs → outcome ≡ get_or outs i outcome → is_some outcome ≡ false → now ≡ count
    → (count ≡ failed (texts_of (take i outs))) × (count ≤ i) → (now ≡ failed (texts_of (take (i + 1) outs))) × (now ≤ i + 1)
passed_over outs i count now (Some text) within is some now_is so_far = absurd (true≢false some)
passed_over outs i count now None within is some now_is so_far =
    let few = so_far.1 in (now_is ∙ so_far.0 ∙ ap length (sym (stored_next outs i None within is refl)), omega (arith, few, now_is))

-- those that aren't refused are stored
pub others : (outs : List (Option (Vec ℕ Global))) (n : ℕ) → n ≡ failed (texts_of outs) → length outs - n ≡ stored (texts_of outs)
others outs n is =
    let sum = failed_stored 0 (texts_of outs) in
    let count = length-map outs text_of in
    omega (arith, sum, count, is)
