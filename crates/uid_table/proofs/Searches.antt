-- What a search through the four ranges gathers.
use Rattle.std.proofs.Common.{◌≡◌, ◌⊎◌, inl, inr, ℕ, ◌≤◌, ◌<◌, true, false, List, [], ◌∷◌, length, refl, sym, subst, arith, Less}
use Rattle.std.specs.Prelude.{Contains, Result, Ok, Err, OnOk}
use Rattle.std.specs.List.{list_all}
use Rattle.std.specs.Ordering.{is_lt}
use Rattle.list_lemmas.proofs.BoolTests.{both_true}
use Rattle.tsd_base.specs.declared.kinds.Kind.{Kind}
use Rattle.tsd_base.specs.Alphabet.{IsName, is_name_byte}
use Rattle.list_lemmas.specs.BytesOrder.{bytes_cmp}
use Rattle.cell_model.specs.History.{first}
use Rattle.cell_model.specs.Seen.{Seen}
use Rattle.uid_table.specs.Suggest.{Gathers, GathersTo, GoesOn, Skips, CanSearch, AreBelow, Suggests}
use Rattle.list_lemmas.proofs.ListMembers.{not_in}
use Rattle.cell_laws.proofs.CallerLemmas.{first_lawful, first_fits, itself}
use Rattle.uid_table.proofs.ByteOrder.{less_or_not, not_both, first_below, below_first, first_above}
use Rattle.uid_table.proofs.Gathering.{all_below}

pub on_ok : {T E A B : Type 0} (r : Result T E) → OnOk r A → (A → B) → OnOk r B
on_ok (Ok x) a f = f a
on_ok (Err e) a f = tt

-- the same up to a later bound, between which and the earlier no name has the prefix
pub gathers_skipping : (start s : Seen) (kind : Kind) (prefix : List ℕ) (max low : ℕ) (to : List ℕ) (names : List (List ℕ)) → is_lt (bytes_cmp to (low ∷ [])) ≡ false → Skips prefix low to
    → Gathers start kind prefix max (low ∷ []) names s → Gathers start kind prefix max to names s
gathers_skipping start s kind prefix max low to names on skips g = record {
  since = g.since;
  rising = g.rising;
  most = g.most;
  below = all_below names (low ∷ []) to g.below on;
  each = g.each;
  covers = λ h l f name r pre lt. g.covers h l f name r pre (skips name r.0 pre lt);
}

pub skip_range : (kind : Kind) (prefix : List ℕ) (max low high : ℕ) (names : List (List ℕ)) (s : Seen) → low < high → Skips prefix low (high ∷ []) → GoesOn kind prefix max (low ∷ []) names s (high ∷ []) names s
skip_range kind prefix max low high names s lt skips start (upto, g, inl is) =
    (high ∷ [], gathers_skipping start s kind prefix max low (high ∷ []) names (first_above high low [] (omega (arith, lt))) skips (subst (λ (b : List ℕ). Gathers start kind prefix max b names s) is g), inl refl)
skip_range kind prefix max low high names s lt skips start (upto, g, inr full) = (upto, g, inr full)

pub stay_full : (kind : Kind) (prefix : List ℕ) (max : ℕ) (from to : List ℕ) (names : List (List ℕ)) (s : Seen) → max ≤ length names → GoesOn kind prefix max from names s to names s
stay_full kind prefix max from to names s full start (upto, g, or) = (upto, g, inr (let m = g.most in omega (arith, m, full)))

pub from_start : (kind : Kind) (prefix : List ℕ) (max low high : ℕ) (from : List ℕ) (names more : List (List ℕ)) (s t : Seen) → length names < max → CanSearch prefix low high from → Skips prefix low from
    → ((start : Seen) → Gathers start kind prefix max from names s → GathersTo start kind prefix max (high ∷ []) more t) → GoesOn kind prefix max (low ∷ []) names s (high ∷ []) more t
from_start kind prefix max low high from names more s t room can skips go start (upto, g, inl is) =
    go start (gathers_skipping start s kind prefix max low from names can.on skips (subst (λ (b : List ℕ). Gathers start kind prefix max b names s) is g))
from_start kind prefix max low high from names more s t room can skips go start (upto, g, inr full) = absurd (omega (arith, room, full))

byte_range : (b : ℕ) → is_name_byte b ≡ true → (1 ≤ b) × (b < 123)
byte_range b e = (grind (arith), grind (arith))

-- names lie between the first range's beginning and the last one's end
pub name_between : (name : List ℕ) → IsName name → (bytes_cmp name (1 ∷ []) ≡ Less → ⊥) × (bytes_cmp name (123 ∷ []) ≡ Less)
name_between [] n = absurd (let s = n.some in omega (arith, s))
name_between (x ∷ xs) n =
    let w = byte_range x (both_true (is_name_byte x) (list_all is_name_byte xs) n.alphabet).0 in
    (λ lt. let u = first_below x 1 xs lt in let a = w.0 in omega (arith, u, a), below_first x 123 xs w.1)

-- before anything was looked for
pub nothing_gathered : (s : Seen) (kind : Kind) (prefix : List ℕ) (max : ℕ) (names : List (List ℕ)) → names ≡ [] → GathersTo s kind prefix max (1 ∷ []) names s
nothing_gathered s kind prefix max names is = subst (λ xs. GathersTo s kind prefix max (1 ∷ []) xs s) (sym is) (
  1 ∷ [],
  record {
    since = omega arith;
    rising = λ i j d lt more. absurd (omega (arith, more));
    most = omega arith;
    below = λ k d lt. absurd (omega (arith, lt));
    each = λ n c. absurd (not_in n c);
    covers = λ h l f name r pre lt. absurd ((name_between name r.0).0 lt);
  },
  inl refl,
)

-- after all was looked for
pub suggests : (old new : Seen) (kind : Kind) (prefix : List ℕ) (max : ℕ) (names : List (List ℕ)) → GathersTo old kind prefix max (123 ∷ []) names new → Suggests old kind prefix max names new
suggests old new kind prefix max names (upto, g, or) h l f = record {
  rising = g.rising;
  most = g.most;
  each = λ n c. let w = g.each n c in (w.0, (w.1.1.is_name, (w.1.0, w.1.1.stands new (itself new) (first new.length h) (first_lawful h new.length l) (first_fits new h f))));
  all = λ n before pre. elim (less_or_not (bytes_cmp n upto)) [
    | inl lt ↦ inl (g.covers h l f n before pre lt)
    | inr on ↦ rest n before.0 on or
  ];
}
  where
    rest : (n : List ℕ) → IsName n → is_lt (bytes_cmp n upto) ≡ false → (upto ≡ 123 ∷ []) ⊎ (length names ≡ max) → Contains names n ⊎ ((length names ≡ max) × AreBelow names n)
    rest n named on (inl is) = absurd (not_both _ (name_between n named).1 (subst (λ (b : List ℕ). is_lt (bytes_cmp n b) ≡ false) is on))
    rest n named on (inr full) = inr (full, all_below names upto n g.below on)
