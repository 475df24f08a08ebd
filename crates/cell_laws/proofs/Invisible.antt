-- Steps that open, read, merge or drop leave the ids, the names and what was accepted, and so the readings that stand.
use Rattle.std.proofs.Common.{◌≡◌, ◌⊎◌, inl, inr, ℕ, ◌+◌, ◌<◌, ◌≤◌, Bool, true, false, List, refl, sym, ap, subst, ◌∙◌, arith}
use Rattle.std.specs.Prelude.{◌↔◌, Option, Some, nat_le, if◌then◌else◌, option_map, option_and_then}
use Rattle.tsd_base.specs.declared.kinds.Kind.{Kind}
use Rattle.row_key.specs.declared.tables.Table.TheVariants.{Ids, Names, Points}
use Rattle.cell_model.specs.declared.row.Row.{Row}
use Rattle.cell_model.specs.declared.events.Content.{Content}
use Rattle.cell_model.specs.declared.events.Entry.{Entry}
use Rattle.cell_model.specs.declared.events.Place.{Place}
use Rattle.cell_model.specs.declared.events.Step.{Step}
use Rattle.cell_model.specs.declared.events.Step.TheVariants.{Open, Read, NextRow, Bump, Claim, PutPoint, AppendPoint, PutMerged, DropCells}
use Rattle.cell_model.specs.History.{History, base_of, len, store_after, entry_at, first, Had}
use Rattle.cell_model.specs.History.History.{Base, Then}
use Rattle.cell_model.specs.IdRows.{id_number, id_row, name_row, id_of, name_of}
use Rattle.cell_model.specs.Lawful.{IsLawful, MayStep}
use Rattle.cell_model.specs.Machine.{after, kind_qual}
use Rattle.cell_model.specs.Readings.{Reading, OneValued, HasReading, IsPut, Accepted}
use Rattle.cell_model.specs.Store.{Store, place_of, get}
use Rattle.cell_model.proofs.CallerLemmas.{content-written_other, get-dropped_other}
use Rattle.cell_laws.specs.Laws.{IsCompaction, IsInvisible, CompactionIsInvisible, SameAcceptedSameStanding}
use Rattle.cell_laws.proofs.Entries.{bounded, entry_at-last, entry_at-more}
use Rattle.cell_laws.proofs.Keep.{had_split}
use Rattle.cell_laws.proofs.Accepting.{standing_was_accepted, standing_is_accepted}

-- ---- one step

ids_other : Ids ≡ Points → ⊥
ids_other e = cc

names_other : Names ≡ Points → ⊥
names_other e = cc

row_other : (p : Place) (row : Row) → (p.row.table ≡ Points → ⊥) → row.table ≡ Points → p.row ≡ row → ⊥
row_other p row other is same = other (ap (λ (x : Row). x.table) same ∙ is)

place_other : (p : Place) (row : Row) (qual : List ℕ) → (p.row.table ≡ Points → ⊥) → row.table ≡ Points → p ≡ place_of row qual → ⊥
place_other p row qual other is same = row_other p row other is (ap (λ (x : Place). x.row) same)

-- such a step leaves all cells but those of point rows
leaves : (h : History) (caller : ℕ) (step : Step) (s : Store) (place : ℕ) (p : Place) → IsInvisible step → MayStep h caller step → (p.row.table ≡ Points → ⊥) → get (after s place step) p ≡ get s p
leaves h caller Open s place p i may other = refl
leaves h caller (Read row) s place p i may other = refl
leaves h caller (NextRow t x y) s place p i may other = refl
leaves h caller (Bump k) s place p i may other = absurd i
leaves h caller (Claim r x y) s place p i may other = absurd i
leaves h caller (PutPoint point r x y) s place p i may other = absurd i
leaves h caller (AppendPoint point r x) s place p i may other = absurd i
leaves h caller (PutMerged row qual value) s place p i may other = content-written_other s row qual value _ p (place_other p row qual other may.in_points)
leaves h caller (DropCells row which) s place p i may other = get-dropped_other s row which p (row_other p row other may.in_points)

puts_none : (step : Step) (r : Reading) → IsInvisible step → IsPut step r → ⊥
puts_none Open r i put = put
puts_none (Read row) r i put = put
puts_none (NextRow t x y) r i put = put
puts_none (Bump k) r i put = put
puts_none (Claim row x y) r i put = put
puts_none (PutPoint point row x y) r i put = i
puts_none (AppendPoint point row x) r i put = i
puts_none (PutMerged row x y) r i put = put
puts_none (DropCells row which) r i put = put

-- ---- one entry

module _ (h : History) (e : Entry) (l : IsLawful (Then h e)) (i : IsInvisible e.step) where
  ids_stay : (kind : Kind) (name : List ℕ) → id_of (Then h e) kind name ≡ id_of h kind name
  ids_stay kind name =
      ap (λ (o : Option Content). option_and_then id_number (option_map (λ (c : Content). c.value) o)) (leaves h e.caller e.step (store_after h) (len h + 1) (place_of (name_row name) (kind_qual kind)) i l.1.may ids_other)

  names_stay : name_of (Then h e) ≡ name_of h
  names_stay = λ j kind id. ap (option_map (λ (c : Content). c.value)) (leaves h e.caller e.step (store_after h) (len h + 1) (place_of (id_row (store_after h).widths kind id) (kind_qual kind)) i l.1.may names_other) j

  accepted_more : (r : Reading) → Accepted h r → Accepted (Then h e) r
  accepted_more r (inl based) = inl (subst (λ (names : Kind → ℕ → Option (List ℕ)). HasReading names (base_of h) r) (sym names_stay) based)
  accepted_more r (inr w) = inr (w.0, (w.1.0, entry_at-more h e w.0 w.1.0 w.1.1), w.2)

  accepted_less : (r : Reading) → Accepted (Then h e) r → Accepted h r
  accepted_less r (inl based) = inl (subst (λ (names : Kind → ℕ → Option (List ℕ)). HasReading names (base_of h) r) names_stay based)
  accepted_less r (inr w) = at (had_split h e w.0 w.1)
    where
      at : (e ≡ w.0) ⊎ Had h w.0 → Accepted h r
      at (inl same) = absurd (puts_none e.step r i (subst (λ (x : Entry). IsPut x.step r) (sym same) w.2))
      at (inr had) = inr (w.0, had, w.2)

-- ---- any number of them

-- the second history is the first with such entries behind it
pub data Grown : History → History → Type 0 where
  same : {h : History} → Grown h h
  more : {g h : History} {e : Entry} → Grown g h → IsInvisible e.step → Grown g (Then h e)

pub ids_grown : {g h : History} → Grown g h → IsLawful h → (kind : Kind) (name : List ℕ) → id_of h kind name ≡ id_of g kind name
ids_grown same l kind name = refl
ids_grown (more {h = h} {e = e} up i) l kind name = ids_stay h e l i kind name ∙ ids_grown up l.0 kind name

pub accepted_grown : {g h : History} → Grown g h → IsLawful h → (r : Reading) → Accepted g r ↔ Accepted h r
accepted_grown same l r = (λ a. a, λ a. a)
accepted_grown (more {h = h} {e = e} up i) l r = let w = accepted_grown up l.0 r in (λ a. accepted_more h e l i r (w.0 a), λ a. w.1 (accepted_less h e l i r a))

under : (n m : ℕ) → nat_le (n + 1) m ≡ false → m < n + 1
under n m e = grind (arith, e)

upto : (n m : ℕ) → nat_le (n + 1) m ≡ true → n + 1 ≤ m
upto n m e = grind (arith, e)

-- behind this length there are only such entries
abbrev pub OnlyBehind : History → ℕ → Type 0
OnlyBehind h from = (place : ℕ) (e : Entry) → from < place → entry_at h place ≡ Some e → IsInvisible e.step

behind_less : (h : History) (x : Entry) (from : ℕ) → OnlyBehind (Then h x) from → OnlyBehind h from
behind_less h x from all place e lt is = all place e lt (entry_at-more h x e place is)

pub grown_behind : (h : History) (from : ℕ) → OnlyBehind h from → Grown (first from h) h
grown_behind (Base b) from all = same
grown_behind (Then h e) from all = at (nat_le (len h + 1) from) refl (grown_behind h from (behind_less h e from all))
  where
    at : (t : Bool) → nat_le (len h + 1) from ≡ t → Grown (first from h) h → Grown (if t then Then h e else first from h) (Then h e)
    at true eq go = same
    at false eq go = more go (all (len h + 1) e (under (len h) from eq) (entry_at-last h e))

-- from one length to another there are only such entries
abbrev pub OnlyBetween : History → ℕ → ℕ → Type 0
OnlyBetween h from to = (place : ℕ) (e : Entry) → from < place → place ≤ to → entry_at h place ≡ Some e → IsInvisible e.step

between_less : (h : History) (x : Entry) (from to : ℕ) → OnlyBetween (Then h x) from to → OnlyBetween h from to
between_less h x from to all place e lt le is = all place e lt le (entry_at-more h x e place is)

between_behind : (h : History) (x : Entry) (from to : ℕ) → len h + 1 ≤ to → OnlyBetween (Then h x) from to → OnlyBehind h from
between_behind h x from to most all place e lt is = let low = bounded h place e is in all place e lt (omega (arith, low, most)) (entry_at-more h x e place is)

pub grown_between : (h : History) (from to : ℕ) → from ≤ to → OnlyBetween h from to → Grown (first from h) (first to h)
grown_between (Base b) from to le all = same
grown_between (Then h e) from to le all = at (nat_le (len h + 1) to) refl (nat_le (len h + 1) from) refl (grown_between h from to le (between_less h e from to all))
  where
    at : (t : Bool) → nat_le (len h + 1) to ≡ t → (f : Bool) → nat_le (len h + 1) from ≡ f → Grown (first from h) (first to h) → Grown (if f then Then h e else first from h) (if t then Then h e else first to h)
    at true high true low go = same
    at true high false low go =
        let most = upto (len h) to high in
        more (grown_behind h from (between_behind h e from to most all)) (all (len h + 1) e (under (len h) from low) most (entry_at-last h e))
    at false high true low go = let a = under (len h) to high in let b = upto (len h) from low in absurd (omega (arith, a, b, le))
    at false high false low go = go

-- ---- compaction

compaction_step : (step : Step) → IsCompaction step → IsInvisible step
compaction_step Open comp = tt
compaction_step (Read row) comp = tt
compaction_step (NextRow t x y) comp = tt
compaction_step (Bump k) comp = comp
compaction_step (Claim row x y) comp = comp
compaction_step (PutPoint point row x y) comp = comp
compaction_step (AppendPoint point row x) comp = comp
compaction_step (PutMerged row x y) comp = tt
compaction_step (DropCells row which) comp = tt

pub compaction_is_invisible : CompactionIsInvisible
compaction_is_invisible h e r l comp one = (
  λ stands. (standing_is_accepted (Then h e) r l later).0 (accepted_more h e l step r (standing_was_accepted h r l.0 stands)),
  λ stands. (standing_is_accepted h r l.0 one).0 (accepted_less h e l step r (standing_was_accepted (Then h e) r l stands)),
)
  where
    step : IsInvisible e.step
    step = compaction_step e.step comp

    later : OneValued (Accepted (Then h e))
    later a b x y m = one a b (accepted_less h e l step a x) (accepted_less h e l step b y) m

pub same_accepted : SameAcceptedSameStanding
same_accepted g h lg lh og oh alike r = (
  λ s. (standing_is_accepted h r lh oh).0 ((alike r).0 (standing_was_accepted g r lg s)),
  λ s. (standing_is_accepted g r lg og).0 ((alike r).1 (standing_was_accepted h r lh s)),
)
