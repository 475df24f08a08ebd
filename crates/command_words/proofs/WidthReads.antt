-- Three digits with commas between them.
use Rattle.std.proofs.Common.{◌≡◌, ℕ, List, [], ◌∷◌, length, get_or, refl, sym, ap, ap₂, subst, ◌∙◌, arith}
use Rattle.std.specs.Prelude.{◌&&◌, nat_eq, Option, None, Some, option_map, if◌then◌else◌}
use Rattle.row_key.specs.IdWidths.{IsWidth}
use Rattle.row_key.specs.Made.{Makes}
use Rattle.row_key.specs.declared.widths.Widths.{Widths}
use Rattle.command_words.specs.WidthWords.{Width, width_of, widths_from, widths_with}
use Rattle.row_key.proofs.CallerLemmas.{one_widths}

-- the text by its places
pub by_places : (text : List ℕ) → length text ≡ 5
    → widths_from text ≡ (if nat_eq (get_or text 1 0) 44 && nat_eq (get_or text 3 0) 44 then widths_with (width_of (get_or text 0 0)) (width_of (get_or text 2 0)) (width_of (get_or text 4 0)) else None)
by_places [] e = absurd (omega (arith, e))
by_places (a ∷ []) e = absurd (omega (arith, e))
by_places (a ∷ b ∷ []) e = absurd (omega (arith, e))
by_places (a ∷ b ∷ c ∷ []) e = absurd (omega (arith, e))
by_places (a ∷ b ∷ c ∷ d ∷ []) e = absurd (omega (arith, e))
by_places (a ∷ b ∷ c ∷ d ∷ f ∷ []) e = refl
by_places (a ∷ b ∷ c ∷ d ∷ f ∷ g ∷ xs) e = absurd (omega (arith, e))

-- the widths of three numbers are those that the digits say
pub made_of : (m k v : ℕ) (a b c : Option Width) → Some m ≡ option_map (λ (w : Width). w.bytes) a → Some k ≡ option_map (λ (w : Width). w.bytes) b → Some v ≡ option_map (λ (w : Width). w.bytes) c → (r : Option Widths) → Makes m k v r → r ≡ widths_with a b c
made_of m k v None b c x y z r is = absurd cc
made_of m k v (Some a) None c x y z r is = absurd cc
made_of m k v (Some a) (Some b) None x y z r is = absurd cc
made_of m k v (Some a) (Some b) (Some c) x y z None is =
    let p : m ≡ a.bytes = cc in
    let q : k ≡ b.bytes = cc in
    let r : v ≡ c.bytes = cc in
    absurd (is (subst IsWidth (sym p) a.fits, subst IsWidth (sym q) b.fits, subst IsWidth (sym r) c.fits))
made_of m k v (Some a) (Some b) (Some c) x y z (Some w) is =
    let p : m ≡ a.bytes = cc in
    let q : k ≡ b.bytes = cc in
    let r : v ≡ c.bytes = cc in
    ap Some (one_widths w (record { metric = a.bytes; tag_key = b.bytes; tag_value = c.bytes; metric_fits = a.fits; key_fits = b.fits; value_fits = c.fits }) (is.metric_is ∙ p) (is.key_is ∙ q) (is.value_is ∙ r))

-- so are those that are read of a text
pub read_of : (text : List ℕ) (m k v : ℕ) → length text ≡ 5 → get_or text 1 0 ≡ 44 → get_or text 3 0 ≡ 44
    → Some m ≡ option_map (λ (w : Width). w.bytes) (width_of (get_or text 0 0)) → Some k ≡ option_map (λ (w : Width). w.bytes) (width_of (get_or text 2 0)) → Some v ≡ option_map (λ (w : Width). w.bytes) (width_of (get_or text 4 0))
    → (r : Option Widths) → Makes m k v r → r ≡ widths_from text
read_of text m k v five first second x y z r is =
    let all = widths_with (width_of (get_or text 0 0)) (width_of (get_or text 2 0)) (width_of (get_or text 4 0)) in
    let commas = ap₂ (λ p q. if nat_eq p 44 && nat_eq q 44 then all else None) first second in
    made_of m k v _ _ _ x y z r is ∙ sym (by_places text five ∙ commas)
