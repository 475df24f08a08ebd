-- What a caller made stands in order, in each history that fits; the first entries of a history that fits do.
use Rattle.std.proofs.Common.{◌≡◌, ◌⊎◌, inl, inr, ℕ, zero, suc, ◌+◌, ◌≤◌, ◌<◌, Bool, true, false, cond, List, [], ◌∷◌, ◌++◌, length, refl, sym, ap, subst, ◌∙◌, arith, rules, slice_index_or, nat_eq}
use Rattle.std.specs.Prelude.{Some, Contains, AllPairs, nat_le, if◌then◌else◌}
use Rattle.std.proofs.lemmas.List.Elements.{Contains-append_cases}
use Rattle.std.proofs.lemmas.List.Kept.{AllPairs-cons}
use Rattle.cell_model.specs.declared.events.Entry.{Entry}
use Rattle.cell_model.specs.declared.events.Placed.{Placed}
use Rattle.cell_model.specs.History.{History, len, entry_at, first}
use Rattle.cell_laws.proofs.Beginnings.{Begins}
use Rattle.cell_model.specs.History.History.{Base, Then}
use Rattle.cell_laws.proofs.Beginnings.Begins.{whole, longer}
use Rattle.cell_model.specs.Seen.{Seen, Fits}
use Rattle.cell_model.specs.Deeds.{deeds, placed, Made, InOrder}
use Rattle.list_lemmas.proofs.BoolTests.{nat_eq_is}
use Rattle.cell_laws.proofs.Entries.{bounded, entry_at-last, entry_at-more}
use Rattle.cell_laws.proofs.LawsHold.{begins_first}
use Rattle.cell_laws.proofs.Counters.{base_of_begins}
use Rattle.cell_laws.proofs.DeedRanges.{inside}

pub record IsDeed (h : History) (caller from to : ℕ) (p : Placed) : Type 0 where
  pub above : from < p.place
  pub within : p.place ≤ to
  pub mine : p.entry.caller ≡ caller
  pub stands : entry_at h p.place ≡ Some p.entry

only : {A : Type 0} (x y : A) → Contains (x ∷ []) y → x ≡ y
only x y (zero, lt, is) = is
only x y (suc k, lt, is) = absurd (omega (arith, lt))

one_or_none : (t : Bool) (x p : Placed) → Contains (cond t (x ∷ []) []) p → (t ≡ true) × (x ≡ p)
one_or_none true x p c = (refl, only x p c)
one_or_none false x p c = absurd (omega (arith, c.1))

pub deeds_each : (h : History) (caller from to : ℕ) (p : Placed) → Contains (deeds h caller from to) p → IsDeed h caller from to p
deeds_each (Base b) caller from to p c = absurd (omega (arith, c.1))
deeds_each (Then h e) caller from to p c =
    elim (Contains-append_cases (deeds h caller from to) (cond (inside from to caller (len h + 1) e.caller) (placed (len h + 1) e ∷ []) []) p c) [
      | inl i ↦ let d = deeds_each h caller from to p i in record { above = d.above; within = d.within; mine = d.mine; stands = entry_at-more h e p.entry p.place d.stands }
      | inr i ↦ let w = one_or_none (inside from to caller (len h + 1) e.caller) (placed (len h + 1) e) p i in subst (IsDeed (Then h e) caller from to) w.1 (last w.0)
    ]
  where
    last : inside from to caller (len h + 1) e.caller ≡ true → IsDeed (Then h e) caller from to (placed (len h + 1) e)
    last eq = record { above = grind (arith, eq); within = grind (arith, eq); mine = grind (arith, eq); stands = entry_at-last h e }

pub pairs_append : (xs ys : List Placed) → AllPairs (λ (p q : Placed). p.place < q.place) xs → AllPairs (λ (p q : Placed). p.place < q.place) ys → ((p q : Placed) → Contains xs p → Contains ys q → p.place < q.place) → AllPairs (λ (p q : Placed). p.place < q.place) (xs ++ ys)
pairs_append [] ys ux uy below = uy
pairs_append (x ∷ xs) ys ux uy below =
    AllPairs-cons (λ (p q : Placed). p.place < q.place) x (xs ++ ys)
    (λ k d lt. at (slice_index_or (xs ++ ys) k d) (Contains-append_cases xs ys (slice_index_or (xs ++ ys) k d) (itself (xs ++ ys) k d lt)))
    (pairs_append xs ys (λ i j d lt within. ux (suc i) (suc j) d (omega (arith, lt)) (omega (arith, within))) uy (λ p q cp cq. below p q (later p cp) cq))
  where
    later : (p : Placed) → Contains xs p → Contains (x ∷ xs) p
    later p (k, lt, is) = (suc k, omega (arith, lt), is)

    itself : (zs : List Placed) (k : ℕ) (d : Placed) → k < length zs → Contains zs (slice_index_or zs k d)
    itself [] k d lt = absurd (omega (arith, lt))
    itself (z ∷ zs) zero d lt = (0, omega arith, refl)
    itself (z ∷ zs) (suc k) d lt = up (itself zs k d (omega (arith, lt)))
      where
        up : Contains zs (slice_index_or zs k d) → Contains (z ∷ zs) (slice_index_or zs k d)
        up (j, l, is) = (suc j, omega (arith, l), is)

    at : (q : Placed) → Contains xs q ⊎ Contains ys q → x.place < q.place
    at q (inl (k, lt, is)) = subst (λ (z : Placed). x.place < z.place) is (ux 0 (suc k) q (omega arith) (omega (arith, lt)))
    at q (inr c) = below x q (0, omega arith, refl) c

one_rises : (t : Bool) (x : Placed) → AllPairs (λ (p q : Placed). p.place < q.place) (cond t (x ∷ []) [])
one_rises true x = λ i j d lt within. absurd (omega (arith, lt, within))
one_rises false x = λ i j d lt within. absurd (omega (arith, within))

pub deeds_rise : (h : History) (caller from to : ℕ) → AllPairs (λ (p q : Placed). p.place < q.place) (deeds h caller from to)
deeds_rise (Base b) caller from to = λ i j d lt within. absurd (omega (arith, within))
deeds_rise (Then h e) caller from to =
    pairs_append (deeds h caller from to) (cond (inside from to caller (len h + 1) e.caller) (placed (len h + 1) e ∷ []) []) (deeds_rise h caller from to) (one_rises (inside from to caller (len h + 1) e.caller) (placed (len h + 1) e))
    (λ p q cp cq.
    let low = bounded h p.place p.entry (deeds_each h caller from to p cp).stands in
    let is : len h + 1 ≡ q.place = ap (λ (x : Placed). x.place) (one_or_none (inside from to caller (len h + 1) e.caller) (placed (len h + 1) e) q cq).1 in
    omega (arith, low, is))

-- what a caller made stands in each history that fits
pub made_in_order : {old new : Seen} {own : List Placed} (h : History) → Made old own new → Fits new h → InOrder h new.length own
made_in_order {old} {new} {own} h m f =
    let is = m.made h f in
    record {
      rising = subst (AllPairs (λ (p q : Placed). p.place < q.place)) is (deeds_rise h old.caller old.length new.length);
      each = λ p c. let d = deeds_each h old.caller old.length new.length p (subst (λ (xs : List Placed). Contains xs p) (sym is) c) in (d.within, d.stands);
    }

len_first_least : (m n : ℕ) (h : History) → m ≤ n → m ≤ len h → m ≤ len (first n h)
len_first_least m n (Base base) le long = long
len_first_least m n (Then h e) le long = at (nat_le (len h + 1) n) refl (len_first_least m n h le)
  where
    at : (b : Bool) → nat_le (len h + 1) n ≡ b → (m ≤ len h → m ≤ len (first n h)) → m ≤ len (if b then Then h e else first n h)
    at true t go = long
    at false t go = let under : n < len h + 1 = search (rules, t) in go (omega (arith, under, le))

pub entry_first : (n : ℕ) (h : History) (place : ℕ) (e : Entry) → place ≤ n → entry_at h place ≡ Some e → entry_at (first n h) place ≡ Some e
entry_first n (Base base) place e le at = at
entry_first n (Then h last) place e le is = at (nat_le (len h + 1) n) refl (nat_eq place (len h + 1)) refl is (entry_first n h place e le)
  where
    at : (b : Bool) → nat_le (len h + 1) n ≡ b → (t : Bool) → nat_eq place (len h + 1) ≡ t → (if t then Some last else entry_at h place) ≡ Some e → (entry_at h place ≡ Some e → entry_at (first n h) place ≡ Some e) → entry_at (if b then Then h last else first n h) place ≡ Some e
    at true b t eq is go = ap (λ x. if x then Some last else entry_at h place) eq ∙ is
    at false b true eq is go = let under : n < len h + 1 = search (rules, b) in let same = nat_eq_is _ _ eq in absurd (omega (arith, le, under, same))
    at false b false eq is go = go is

pub entry_begins : {a h : History} (place : ℕ) (e : Entry) → Begins a h → entry_at a place ≡ Some e → entry_at h place ≡ Some e
entry_begins place e whole is = is
entry_begins place e (longer {h = h} {e = x} b) is = entry_at-more h x e place (entry_begins place e b is)

-- the first entries fit, up to the seen length or to a greater one
pub fits_longer : (s : Seen) (h : History) (n : ℕ) → s.length ≤ n → Fits s h → Fits s (first n h)
fits_longer s h n le f = record {
  base = base_of_begins (begins_first n h) ∙ f.base;
  long = len_first_least s.length n h le f.long;
  seen = λ place e saw. let within = saw.0 in entry_first n h place e (omega (arith, within, le)) (f.seen place e saw);
  no_other = λ place e low mine at. f.no_other place e low mine (entry_begins place e (begins_first n h) at);
}

pub fits_first : (s : Seen) (h : History) → Fits s h → Fits s (first s.length h)
fits_first s h f = fits_longer s h s.length (omega arith) f
