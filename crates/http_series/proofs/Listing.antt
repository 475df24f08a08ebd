-- Lists of texts with commas between them.
use Rattle.std.proofs.Common.{◌≡◌, ◌∙◌, ℕ, ◌+◌, ◌<◌, List, ◌++◌, map, length, get_or, take, sym, ap, arith}
use Rattle.std.proofs.lemmas.List.{length-take-le, length-map}
use Rattle.list_lemmas.proofs.MapPlaces.{more_map}
use Rattle.json_reply.specs.Texts.{listed}
use Rattle.json_reply.proofs.CallerLemmas.{comma_before, one_written}

-- what is written with the text of one more item
pub listed_next : {A : Type 0} (text : A → List ℕ) (items : List A) (i : ℕ) (item : A) (old before comma now : List ℕ) → i < length items → item ≡ get_or items i item → before ≡ old ++ listed (map text (take i items))
    → comma ≡ before ++ comma_before i → now ≡ comma ++ text item → now ≡ old ++ listed (map text (take (i + 1) items))
listed_next text items i item old before comma now within is before_is comma_is now_is =
    one_written old (map text (take i items)) before comma now i (text item) before_is (length-map (take i items) text ∙ length-take-le i items (omega arith)) comma_is now_is
    ∙ ap (λ xs. old ++ listed xs) (sym (more_map text items i item within is))
