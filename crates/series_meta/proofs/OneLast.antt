-- The last point: what is said of it, by what its steps say.
use Rattle.std.proofs.Common.{◌≡◌, inl, inr, ℕ, ◌+◌, ◌*◌, ◌%◌, ◌<◌, ◌≤◌, List, [], ◌∷◌, ◌++◌, length, refl, sym, ap, subst, ◌∙◌, arith, append_assoc, length-append}
use Rattle.std.specs.Prelude.{ℤ, Contains, Option, None, Some, Result, Ok, Err}
use Rattle.std.proofs.lemmas.List.Elements.{Contains-append_right}
use Rattle.list_lemmas.proofs.ListMembers.{here}
use Rattle.row_hours.specs.declared.hours.TheConstants.{HOUR}
use Rattle.tsd_base.specs.declared.kinds.Kind.{Kind}
use Rattle.tsd_base.specs.TagList.{Pair}
use Rattle.row_key.specs.declared.widths.Widths.{Widths}
use Rattle.row_key.specs.declared.keys.RowKey.{RowKey}
use Rattle.row_key.specs.Key.{IsKey}
use Rattle.qual_codec.specs.Merge.{first_conflict}
use Rattle.qual_codec.proofs.CallerLemmas.{value_dot}
use Rattle.cell_model.specs.declared.events.Placed.{Placed}
use Rattle.cell_model.specs.History.{History, first, store_after}
use Rattle.cell_model.specs.IdRows.{NameOf, AllResolved, name_of}
use Rattle.cell_model.specs.Store.{Store}
use Rattle.cell_model.specs.Readings.{Named}
use Rattle.cell_model.specs.Lawful.{IsLawful}
use Rattle.cell_model.specs.Layout.{base_time, tag_names}
use Rattle.cell_model.specs.Seen.{Seen, Fits}
use Rattle.cell_model.specs.Deeds.{Made}
use Rattle.cell_laws.proofs.CallerLemmas.{first_lawful, first_fits, seen_widths, made_joined, itself}
use Rattle.uid_table.specs.PlacedPoints.{key_at}
use Rattle.metric_scan.specs.declared.fault.AskFault.{AskFault}
use Rattle.metric_scan.specs.declared.fault.AskFault.TheVariants as ask
use Rattle.metric_scan.specs.Parts.{IsQueryStep, AreQuerySteps, FirstUnknown}
use Rattle.metric_scan.specs.RowNames.{AreReads}
use Rattle.metric_scan.specs.ResolvedIds.{AreResolved, IsUnresolved, UnresolvedBy}
use Rattle.series_meta.specs.HourWalks.{LatestAt, ReadsRow, HasPassed, WalkedTo, WalkedAll, WalkIs, WalkSays}
use Rattle.series_meta.specs.SeriesRows.{IsShownKey, series_id}
use Rattle.series_meta.specs.LatestPoints.{Asking, InReach, HadTime, StoppedLast, IsLast, IsNone, HasTwo, FoundSays, names_asked}
use Rattle.series_meta.proofs.NameLooks.{reads_joined}
use Rattle.series_meta.proofs.LatestDots.{le_or}
use Rattle.series_meta.proofs.LastReadings.{named, metric_known, time_shown, dot_accepted}

reads_steps : (list : List Placed) → AreReads list → AreQuerySteps list
reads_steps list r p c = let w = r p c in subst IsQueryStep (sym w.2) tt

tag_count : (tags : List Pair) → length (tag_names tags) ≡ 2 * length tags
tag_count [] = refl
tag_count (t ∷ tags) = let n = tag_count tags in omega (arith, n)

few_looks : (q : Asking) (list : List Placed) → length list ≤ length (names_asked q) → length list ≤ 1 + 2 * length q.tags
few_looks q list le = let n = tag_count q.tags in omega (arith, le, n)

-- ---- a name is unknown

first_unknown : (names : List NameOf) (list : List Placed) (new : Seen) (h : History) → IsLawful h → Fits new h → (kind : Kind) (name : List ℕ) → UnresolvedBy names list new (ask.Unknown kind name) → FirstUnknown names (kind, name) list (first new.length h)
first_unknown names list new h lawful fits kind name u = record {
  before = u.before;
  after = u.after;
  cut = u.cut;
  resolved = λ n c. let w = u.shown n c in (w.0, w.1.stands new (itself new) (first new.length h) (first_lawful h new.length lawful) (first_fits new h fits));
  none = u.none;
}

few_names : (q : Asking) (list : List Placed) → length list ≤ length (names_asked q) → length list ≤ q.back + 2 + 2 * length q.tags
few_names q list le = let n = few_looks q list le in omega (arith, n)

pub names_failed : (q : Asking) (old new : Seen) (fault : AskFault) → IsUnresolved old (names_asked q) fault new → FoundSays q old (Err fault) new
names_failed q old new (ask.Unknown kind name) u =
    (tt, record { own = u.list; made = u.made; steps = reads_steps u.list u.looks.reads; few = few_names q u.list u.looks.few; is = λ h lawful fits. first_unknown (names_asked q) u.list new h lawful fits kind name u.cause })
names_failed q old new ask.OutOfMemory u = (tt, record { own = u.list; made = u.made; steps = reads_steps u.list u.looks.reads; few = few_names q u.list u.looks.few; is = λ h lawful fits. tt })
names_failed q old new ask.Stopped u = (tt, record { own = u.list; made = u.made; steps = reads_steps u.list u.looks.reads; few = few_names q u.list u.looks.few; is = λ h lawful fits. tt })
names_failed q old new (ask.TooManyBuckets count) u = absurd u.cause
names_failed q old new (ask.BadFilter index) u = absurd u.cause
names_failed q old new (ask.Duplicate time a b) u = absurd u.cause
names_failed q old new (ask.Overflow time) u = absurd u.cause

-- ---- the rows were read

hour_whole : (time : ℕ) → base_time time % HOUR ≡ 0
hour_whole time = omega arith

-- the names of a series were resolved, and then its rows were read
module _ (q : Asking) (old mid new : Seen) (key : RowKey) (r : AreResolved old (names_asked q) mid) (k : IsShownKey mid q.metric q.tags q.now key) (own : List Placed) (walk : Made mid own new) (reads : AreReads own) (few : length own ≤ q.back + 1) where
  abbrev all : List Placed
  all = r.list ++ own

  made_all : Made old all new
  made_all = made_joined old mid new r.list own r.made walk

  steps_all : AreQuerySteps all
  steps_all = reads_steps all (reads_joined r.list own r.looks.reads reads)

  few_all : length all ≤ q.back + 2 + 2 * length q.tags
  few_all = let l = length-append r.list own in let n = few_looks q r.list r.looks.few in omega (arith, l, n, few)

  module _ (h : History) (lawful : IsLawful h) (fits : Fits new h) where
    abbrev g : History
    g = first new.length h

    abbrev W : Widths
    W = (store_after g).widths

    g_fits : Fits new g
    g_fits = first_fits new h fits

    seen_w : mid.base.widths ≡ W
    seen_w = ap (λ (b : Store). b.widths) (sym walk.since.extends.base) ∙ seen_widths new g g_fits

    early : old.length ≤ mid.length
    early = r.made.since.extends.length

    is_key : IsKey W key
    is_key = subst (λ (w : Widths). IsKey w key) seen_w k.is_key

    names_resolved : AllResolved g (names_asked q)
    names_resolved n c = let s = r.shown n c in (s.0, s.1.stands new walk.since.extends g (first_lawful h new.length lawful) g_fits)

    -- the hour of a time of the series was passed
    not_passed : (time : ℕ) → HadTime q (first old.length h) time → IsKey W (key_at key (base_time time)) → HasPassed W key q.now own (base_time time) → ⊥
    not_passed time had is (p, c, (dots, row, later)) =
        let d = time_shown q old.length mid new own h lawful fits walk early key is_key k g_fits (base_time time) dots p time is c row had refl in
        let after = later d.0 d.1 in
        let at = d.2 in
        let most = had.within.1 in omega (arith, after, at, most)

    hour_is_key : (base : ℕ) → base % HOUR ≡ 0 → base ≤ key.base → IsKey W (key_at key base)
    hour_is_key base whole le = record { metric = is_key.metric; base = let b = is_key.base in omega (arith, b, le); hour = whole; some = is_key.some; most = is_key.most; ids = is_key.ids; rising = is_key.rising }

    hour_up : (time : ℕ) → time ≤ q.now → base_time time ≤ key.base
    hour_up time le = let hour = k.hour in omega (arith, le, hour)

    pub is_none : (at : RowKey) → WalkedAll mid.base.widths key q.now q.back own at → IsNone q old.length new.length h
    is_none at w = record {
      resolved = names_resolved;
      none = λ time had.
          let low = had.within.0 in
          let high = had.within.1 in
          let hour = k.hour in
          let up = hour_up time high in
          let passed = w.passed (base_time time) (hour_whole time) up (omega (arith, low, hour)) in
          not_passed time had (hour_is_key (base_time time) (hour_whole time) up) (subst (λ (x : Widths). HasPassed x key q.now own (base_time time)) seen_w passed);
    }

    -- the reading stopped at a row
    module _ (result : Result (Option (ℕ × ℤ)) AskFault) (at : RowKey) (w : WalkedTo W key q.now q.back own result at) (time : ℕ) (values : List ℤ) (latest : LatestAt w.dots at.base q.now time values) where
      last_in : Contains own w.last
      last_in = subst (λ (l : List Placed). Contains l w.last) (sym w.own_is) (Contains-append_right w.earlier (w.last ∷ []) w.last (here w.last []))

      at_key : IsKey W (key_at key at.base)
      at_key = subst (IsKey W) w.at_is w.is_key

      at_row : ReadsRow W (key_at key at.base) w.dots w.last
      at_row = subst (λ (x : RowKey). ReadsRow W x w.dots w.last) w.at_is w.reads

      reach : InReach q time
      reach =
          let low = w.from_on in
          let is = latest.time_is in
          let hour = k.hour in
          (omega (arith, low, is, hour), latest.up_to)

      -- of another time of the series, its hour isn't above this row's, and in this row it isn't later
      none_later : (other : ℕ) → HadTime q (first old.length h) other → time < other → ⊥
      none_later other had lt = elim (le_or (base_time other) at.base) [
        | inl low ↦
            let is = latest.time_is in
            let same : base_time other ≡ at.base = omega (arith, low, is, lt) in
            let d = time_shown q old.length mid new own h lawful fits walk early key is_key k g_fits at.base w.dots w.last other at_key last_in at_row had same in
            let e = d.2 in
            let most = had.within.1 in
            let up = latest.latest d.0 d.1 (omega (arith, e, most)) in
            omega (arith, e, is, lt, up)
        | inr above ↦
            let up = hour_up other had.within.1 in
            not_passed other had (hour_is_key (base_time other) (hour_whole other) up) (w.passed (base_time other) (hour_whole other) above up)
      ]

      stopped : StoppedLast q old.length all at time values new.length h
      stopped = record {
        resolved = names_resolved;
        stopped = record {
          is_key = record {
            is_key = w.is_key;
            metric_is = metric_known q old.length mid new own h lawful fits walk early key is_key k g_fits ∙ ap (λ (x : RowKey). Some x.metric) (sym w.at_is);
            tags_are = subst (λ (x : RowKey). Named (name_of g) x.pairs.items q.tags) (sym w.at_is) (named q old.length mid new own h lawful fits walk early key is_key k g_fits);
          };
          earlier = r.list ++ w.earlier;
          at = w.last;
          own_is = ap (λ (l : List Placed). r.list ++ l) w.own_is ∙ sym (append_assoc r.list w.earlier (w.last ∷ []));
          cells = w.reads.cells;
          did = w.reads.did;
          dots = w.dots;
          are_dots = w.reads.are_dots;
          latest = latest;
          within = reach;
        };
        last = λ other had. elim (le_or other time) [ inl le ↦ le | inr lt ↦ absurd (none_later other had lt) ];
      }

      pub has_two : (a b : ℤ) → first_conflict values ≡ Some (a, b) → HasTwo q old.length all time a b new.length h
      has_two a b two = record { key = at; values = values; stopped = stopped; two = two }

      pub is_last : (value : ℤ) (id : List ℕ) → id ≡ series_id new.base.widths at → first_conflict values ≡ None → Contains values value → IsLast q old.length all (record { tsuid = id; time = time; value = value }) new.length h
      is_last value id series one c =
          let v = value_dot w.dots latest.offset value (subst (λ (l : List ℤ). Contains l value) latest.values_are c) in
          record {
            key = at;
            values = values;
            stopped = stopped;
            one = one;
            among = c;
            accepted = dot_accepted q old.length mid new own h lawful fits walk early key is_key k g_fits at.base w.dots w.last v.dot time value at_key last_in at_row v.among (latest.time_is ∙ ap (λ n. at.base * 1000 + n) (sym v.offset_is)) (sym v.value_is);
            series_is = series ∙ ap (λ (x : Widths). series_id x at) (seen_widths new h fits);
          }

  -- ---- the answers

  carried : (result : Result (Option (ℕ × ℤ)) AskFault) (at : RowKey) (h : History) (lawful : IsLawful h) (fits : Fits new h) → WalkedTo mid.base.widths key q.now q.back own result at → WalkedTo (W h lawful fits) key q.now q.back own result at
  carried result at h lawful fits w = subst (λ (x : Widths). WalkedTo x key q.now q.back own result at) (seen_w h lawful fits) w

  pub found_none : (at : RowKey) → WalkedAll mid.base.widths key q.now q.back own at → FoundSays q old (Ok None) new
  found_none at w = record { own = all; made = made_all; steps = steps_all; few = few_all; is = λ h lawful fits. is_none h lawful fits at w }

  pub found_lost : FoundSays q old (Err ask.OutOfMemory) new
  found_lost = (tt, record { own = all; made = made_all; steps = steps_all; few = few_all; is = λ h lawful fits. tt })

  pub found_last : (point : ℕ × ℤ) (at : RowKey) (id : List ℕ) → WalkedTo mid.base.widths key q.now q.back own (Ok (Some point)) at → id ≡ series_id new.base.widths at → FoundSays q old (Ok (Some (record { tsuid = id; time = point.0; value = point.1 }))) new
  found_last point at id w series = record {
    own = all;
    made = made_all;
    steps = steps_all;
    few = few_all;
    is = λ h lawful fits.
        let x = carried (Ok (Some point)) at h lawful fits w in
        is_last h lawful fits (Ok (Some point)) at x point.0 x.point.0 x.point.1 point.1 id series x.point.2 x.point.3;
  }

  pub rows_failed : (fault : AskFault) (at : RowKey) → WalkIs mid.base.widths key q.now q.back own (Err fault) at → FoundSays q old (Err fault) new
  rows_failed (ask.Duplicate time a b) at w = (
    tt,
    record {
      own = all;
      made = made_all;
      steps = steps_all;
      few = few_all;
      is = λ h lawful fits.
          let x = carried (Err (ask.Duplicate time a b)) at h lawful fits w in
          has_two h lawful fits (Err (ask.Duplicate time a b)) at x time x.point.0 x.point.1 a b x.point.2;
    },
  )
  rows_failed ask.OutOfMemory at w = found_lost
  rows_failed ask.Stopped at w = (tt, record { own = all; made = made_all; steps = steps_all; few = few_all; is = λ h lawful fits. tt })
  rows_failed (ask.Unknown kind name) at w = absurd w
  rows_failed (ask.TooManyBuckets count) at w = absurd w
  rows_failed (ask.BadFilter index) at w = absurd w
  rows_failed (ask.Overflow time) at w = absurd w

-- ---- by the sights of the steps

-- the rows of a series couldn't all be read
pub walk_refused : (q : Asking) (old mid new : Seen) (key : RowKey) (fault : AskFault) (at : RowKey) → AreResolved old (names_asked q) mid × IsShownKey mid q.metric q.tags q.now key → WalkSays key q.now q.back mid (Err fault) new at → FoundSays q old (Err fault) new
walk_refused q old mid new key fault at names w = rows_failed q old mid new key names.0 names.1 w.own w.made w.few.0 w.few.1 fault at w.is

pub walk_none : (q : Asking) (old mid new : Seen) (key at : RowKey) → AreResolved old (names_asked q) mid × IsShownKey mid q.metric q.tags q.now key → WalkSays key q.now q.back mid (Ok None) new at → FoundSays q old (Ok None) new
walk_none q old mid new key at names w = found_none q old mid new key names.0 names.1 w.own w.made w.few.0 w.few.1 at w.is

pub walk_lost : (q : Asking) (old mid new : Seen) (key at : RowKey) (point : ℕ × ℤ) → AreResolved old (names_asked q) mid × IsShownKey mid q.metric q.tags q.now key → WalkSays key q.now q.back mid (Ok (Some point)) new at → FoundSays q old (Err ask.OutOfMemory) new
walk_lost q old mid new key at point names w = found_lost q old mid new key names.0 names.1 w.own w.made w.few.0 w.few.1

pub walk_last : (q : Asking) (old mid new : Seen) (key at : RowKey) (time : ℕ) (value : ℤ) (id : List ℕ) → AreResolved old (names_asked q) mid × IsShownKey mid q.metric q.tags q.now key → WalkSays key q.now q.back mid (Ok (Some (time, value))) new at → id ≡ series_id new.base.widths at
    → FoundSays q old (Ok (Some (record { tsuid = id; time = time; value = value }))) new
walk_last q old mid new key at time value id names w series = found_last q old mid new key names.0 names.1 w.own w.made w.few.0 w.few.1 (time, value) at id w.is series
