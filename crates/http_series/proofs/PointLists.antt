-- The texts of points, each behind a comma.
use Rattle.std.proofs.Common.{◌≡◌, ◌∙◌, ℕ, List, [], ◌∷◌, ◌++◌, drop, refl, sym, ap, append_assoc, append-nil}
use Rattle.std.specs.Prelude.{codes}
use Rattle.json_reply.specs.Texts.{listed}
use Rattle.http_series.specs.SeriesAnswers.{behind_commas}
use Rattle.http_series.specs.SeriesReplies.{points_text}

-- without the first comma they stand with commas between them
between : (texts : List (List ℕ)) → drop 1 (behind_commas texts) ≡ listed texts
between [] = refl
between (text ∷ []) = append-nil text
between (text ∷ next ∷ texts) = ap (λ rest. text ++ 44 ∷ rest) (between (next ∷ texts))

-- so they make an array
pub array : (points : List ℕ) (texts : List (List ℕ)) → points ≡ behind_commas texts → codes "[" ++ (drop 1 points ++ codes "]") ≡ points_text texts
array points texts is = ap (λ inner. codes "[" ++ (inner ++ codes "]")) (ap (drop 1) is ∙ between texts)

-- more of them stand behind those
pub more_behind : (texts more : List (List ℕ)) → behind_commas (texts ++ more) ≡ behind_commas texts ++ behind_commas more
more_behind [] more = refl
more_behind (text ∷ texts) more = ap (λ rest. 44 ∷ (text ++ rest)) (more_behind texts more) ∙ ap (λ rest. 44 ∷ rest) (sym (append_assoc text (behind_commas texts) (behind_commas more)))

-- one more of them is written
pub one_behind : (old comma new text : List ℕ) → comma ≡ old ++ 44 ∷ [] → new ≡ comma ++ text → new ≡ old ++ behind_commas (text ∷ [])
one_behind old comma new text comma_is new_is =
    new_is ∙ ap (λ before. before ++ text) comma_is ∙ append_assoc old (44 ∷ []) text ∙ ap (λ t. old ++ 44 ∷ t) (sym (append-nil text))

-- one text behind another
pub two_written : (old between new first second written : List ℕ) → between ≡ old ++ first → new ≡ between ++ written → written ≡ second → new ≡ old ++ (first ++ second)
two_written old between new first second written between_is new_is same = new_is ∙ ap (λ text. between ++ text) same ∙ ap (λ before. before ++ second) between_is ∙ append_assoc old first second

-- three texts, one behind the other
pub three_written : (old one two new first second third : List ℕ) → one ≡ old ++ first → two ≡ one ++ second → new ≡ two ++ third → new ≡ old ++ (first ++ second ++ third)
three_written old one two new first second third one_is two_is new_is =
    new_is ∙ ap (λ text. text ++ third) (two_is ∙ ap (λ text. text ++ second) one_is ∙ append_assoc old first second) ∙ append_assoc old (first ++ second) third

-- four texts, one behind the other, where nothing stood before
pub four_alone : (none one two three new first second third fourth : List ℕ) → none ≡ [] → one ≡ none ++ first → two ≡ one ++ second → three ≡ two ++ third → new ≡ three ++ fourth → new ≡ first ++ (second ++ (third ++ fourth))
four_alone none one two three new first second third fourth none_is one_is two_is three_is new_is =
    new_is ∙ ap (λ text. text ++ fourth) (three_is ∙ ap (λ text. text ++ third) (two_is ∙ ap (λ text. text ++ second) (one_is ∙ ap (λ text. text ++ first) none_is))) ∙ append_assoc (first ++ second) third fourth
    ∙ append_assoc first second (third ++ fourth)
