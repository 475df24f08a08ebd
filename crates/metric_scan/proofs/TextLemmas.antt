-- Texts that are written piece by piece.
use Rattle.std.proofs.Common.{◌≡◌, ℕ, List, ◌++◌, ap, ◌∙◌, append_assoc}

-- one piece and then another
pub joined : (old mid new first second : List ℕ) → mid ≡ old ++ first → new ≡ mid ++ second → new ≡ old ++ (first ++ second)
joined old mid new first second a b = b ∙ ap (λ text. text ++ second) a ∙ append_assoc old first second

-- and three more
pub joined_more : (old mid new text a b c : List ℕ) → mid ≡ old ++ text → new ≡ mid ++ a ++ b ++ c → new ≡ old ++ (text ++ a ++ b ++ c)
joined_more old mid new text a b c x y =
    y ∙ ap (λ before. before ++ a ++ b ++ c) x ∙ ap (λ before. before ++ b ++ c) (append_assoc old text a) ∙ ap (λ before. before ++ c) (append_assoc old (text ++ a) b) ∙ append_assoc old (text ++ a ++ b) c
