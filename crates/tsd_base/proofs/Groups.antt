-- The first byte of a text that passes a test, by the masks of groups of bytes.
use Rattle.std.proofs.Common.{◌≡◌, ℕ, ◌+◌, ◌*◌, ◌<◌, ◌≤◌, Bool, true, false, not, cond, eqb, List, [], ◌∷◌, map, length, drop, ap, ◌∙◌, sym, arith}
use Rattle.std.proofs.lemmas.Simd.{chunk-drop, length-chunk, leading_from_mask_l, trailing_mask_l}
use Rattle.std.proofs.lemmas.List.Folds.{prefix_len-append}
use Rattle.std.proofs.lemmas.List.Sums.{prefix_len-le-length}
use Rattle.std.proofs.lemmas.Bool.{eq-eqb, ne_eqb}
use Rattle.std.specs.List.{position_or_len}
use lib.Lanes.{chunk, mask_l}
use lib.Count.{count_trailing_zeros}

unset : (b : Bool) (n l m : ℕ) → n ≤ l → cond (not b) (1 + n) 0 ≡ 1 + l → (n ≡ l → m ≡ 0) → cond b 1 0 + 2 * m ≡ 0
unset true n l m le e rest = let no : ⊥ = omega arith in absurd no
unset false n l m le e rest = let none = rest (omega arith) in omega arith

module _ (p : ℕ → Bool) where
  none_passes : (group : List ℕ) → position_or_len p group ≡ length group → mask_l (map p group) ≡ 0
  none_passes [] e = omega arith
  none_passes (b ∷ group) e = unset (p b) _ (length group) _ (prefix_len-le-length (λ x. not (p x)) group) (omega arith) (none_passes group)

  parts : (text : List ℕ) (at n : ℕ) → position_or_len p (drop at text) ≡ cond (eqb (position_or_len p (chunk at n text)) (length (chunk at n text))) (length (chunk at n text) + position_or_len p (drop (at + n) text)) (position_or_len p (chunk at n text))
  parts text at n = ap (position_or_len p) (chunk-drop at n text) ∙ prefix_len-append (λ x. not (p x)) (chunk at n text) (drop (at + n) text)

  pub behind_group : (text : List ℕ) (at n : ℕ) → at + n ≤ length text → mask_l (map p (chunk at n text)) ≡ 0 → position_or_len p (drop at text) ≡ n + position_or_len p (drop (at + n) text)
  behind_group text at n room none =
      let group = chunk at n text in
      parts text at n ∙ ap (λ b. cond b (length group + position_or_len p (drop (at + n) text)) (position_or_len p group)) (eq-eqb _ _ (leading_from_mask_l p group none))
      ∙ ap (λ k. k + position_or_len p (drop (at + n) text)) (length-chunk at n text room)

  pub in_group : (text : List ℕ) (at n : ℕ) → at + n ≤ length text → n ≤ 64 → 0 < mask_l (map p (chunk at n text)) → position_or_len p (drop at text) ≡ count_trailing_zeros 64 (mask_l (map p (chunk at n text)))
  in_group text at n room few some =
      let group = chunk at n text in
      parts text at n ∙ ap (λ b. cond b (length group + position_or_len p (drop (at + n) text)) (position_or_len p group)) (ne_eqb _ _ (λ (e : position_or_len p group ≡ length group). omega (arith, none_passes group e)))
      ∙ sym (trailing_mask_l p 64 group (omega (arith, length-chunk at n text room)) some)
