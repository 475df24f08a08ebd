use Rattle.std.proofs.Common.{◌∷◌, ◌+◌, ◌∙◌, sym, ap, List, ℕ, take, Some, None}
use Rattle.std.specs.List.{slice_split}
use Rattle.std.proofs.lemmas.List.{take_rest}
use Rattle.http_requests.specs.HeadFields.{is_word_end}
use Rattle.http_requests.proofs.HeadLemmas.{words_at}
use Rattle.http_requests.proofs.head_fields.first_word.Goals as goal

pub returns-in-Some-clause-words : goal.returns-in-Some-clause-words
returns-in-Some-clause-words c =
    words_at c.args.text.now (Some c.in-Some.at) (sym c.in-Some.is ∙ c.comma_place.ensures)
    ∙ ap (λ (xs : List ℕ). take c.in-Some.at c.args.text.now ∷ slice_split is_word_end xs) (sym (take_rest c.args.text.now (c.in-Some.at + 1)))

pub returns-in-None-clause-words : goal.returns-in-None-clause-words
returns-in-None-clause-words c = words_at c.args.text.now None (sym c.in-None.is ∙ c.comma_place.ensures)
