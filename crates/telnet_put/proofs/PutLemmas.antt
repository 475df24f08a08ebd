-- The words of a text that begins with `put` and a space.
use Rattle.std.proofs.Common.{◌≡◌, ◌≢◌, ℕ, List, [], ◌∷◌, ◌++◌, Option, None, Some, Bor, MatchOption, IfSome, codes, refl, ap, ◌∙◌}
use Rattle.tsd_base.specs.Words.{words_of}

words_behind : (rest : List ℕ) → words_of (112 ∷ 117 ∷ 116 ∷ 32 ∷ rest) ≡ codes "put" ∷ words_of rest
unfolding words_of
words_behind rest = refl

pub put_begins : (text put : List ℕ) (found : Option (Bor (List ℕ))) → put ≡ 112 ∷ 117 ∷ 116 ∷ 32 ∷ [] → MatchOption found ((rest : List ℕ) → text ≢ put ++ rest) (λ rest. text ≡ put ++ rest.now) → IfSome found (λ rest. words_of text ≡ codes "put" ∷ words_of rest.now)
put_begins text put None e begins = tt
put_begins text put (Some rest) e begins = ap words_of (begins ∙ ap (λ front. front ++ rest.now) e) ∙ words_behind rest.now
