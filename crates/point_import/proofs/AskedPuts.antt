-- Puts behind names that were asked.
use Rattle.std.proofs.Common.{◌≡◌, inl, inr, ℕ, ℤ, Bool, true, false, List, [], refl, sym, ap, subst, ◌∙◌, arith}
use Rattle.std.specs.Prelude.{Option, None, Some, Result, Ok, Err}
use Rattle.std.proofs.lemmas.Bool.{true≢false}
use Rattle.tsd_base.specs.Points.{DataPoint, FailsPoint, data_point, point_of}
use Rattle.tsd_base.specs.TextParts.{HasTextParts, tags_read}
use Rattle.tsd_base.specs.Names.{name_of}
use Rattle.tsd_base.specs.declared.text_parts.TextParts.{TextParts}
use Rattle.tsd_base.specs.declared.points.PointFault.{PointFault}
use Rattle.tsd_base.specs.declared.points.PointFault.TheVariants as point
use Rattle.tsd_base.specs.declared.kinds.Kind.{Kind}
use Rattle.tsd_base.specs.declared.kinds.Kind.TheVariants.{Metric, TagKey, TagValue}
use Rattle.tsd_base.proofs.TextReads.{text_reads}
use Rattle.tsd_hooks.specs.declared.name_patterns.Patterns.{Patterns}
use Rattle.cell_model.specs.declared.answers.RowsFault.{RowsFault}
use Rattle.cell_model.specs.declared.answers.RowsFault.TheVariants as rows
use Rattle.cell_model.specs.declared.answers.Stored.{Stored}
use Rattle.cell_model.specs.Deeds.{Made, deeds}
use Rattle.cell_model.specs.History.{History, first}
use Rattle.cell_model.specs.Layout.{names_of}
use Rattle.cell_model.specs.Lawful.{IsLawful}
use Rattle.cell_model.specs.Seen.{Seen, Fits, IsPossible}
use Rattle.cell_model.specs.Stops.{CountsStops, RoseIf, is_stop}
use Rattle.cell_laws.proofs.CallerLemmas.{nothing_made, since_joined}
use Rattle.uid_table.specs.KnownSeries.{IsShownSeries}
use Rattle.uid_table.specs.declared.known_series.KnownSeries.{KnownSeries}
use Rattle.uid_table.specs.declared.placed_point.PlacedPoint.{PlacedPoint}
use Rattle.point_put.specs.Admissions.{Admission}
use Rattle.point_put.specs.Configs.{makes}
use Rattle.point_put.specs.PutFaults.{put_fault}
use Rattle.point_put.specs.PutPoint.{PointAsked, PutSays}
use Rattle.point_put.specs.StoredTexts.{answer_at}
use Rattle.point_put.specs.TextPuts.{point_at}
use Rattle.point_put.specs.declared.fault.PutFault.{PutFault}
use Rattle.point_put.specs.declared.fault.PutFault.TheVariants as put
use Rattle.point_put.proofs.CallerLemmas.{none_in_turn}
use Rattle.point_lines.specs.OpenRules.{AllowsAll}
use Rattle.point_import.specs.PutPoints.{AskedPut, IsFaultOfOpen, IsFaultOfRows, Names, PutsPoint, PutsText, SaysPut, TellsFault, TellsUnread, is_memory, open_to}
use Rattle.point_import.specs.declared.import_point.TextOutcome.{TextOutcome}
use Rattle.point_import.specs.declared.import_point.TextOutcome.TheVariants as outcome
use Rattle.point_import.proofs.AskedNames.{shown_named}

-- ---- a put behind its names
module _ (patterns : Patterns) (p : DataPoint) (a b c : Seen) (names : Names patterns a (names_of p) (Ok None) b) where
  asked_behind : (answer : Result Stored PutFault) (says : PutSays (open_to patterns) p b answer c) (h : History) → IsLawful h → Fits c h → AskedPut patterns h a.caller a.length c.length p answer
  asked_behind answer says h lawful fits = record {
    last = b.length;
    named = names.made h lawful (says.1.since.extends.fits h fits);
    in_range = says.1.since.extends.length;
    asked = subst (λ (who : ℕ). PointAsked (open_to patterns) p (first c.length h) (deeds h who b.length c.length) answer) names.since.caller
        (subst (λ list. PointAsked (open_to patterns) p (first c.length h) list answer) (sym (says.1.made h fits)) (says.2 h lawful fits));
  }

  pub put_behind : (r : Result (Option Kind) RowsFault) → SaysPut patterns p b r c → PutsPoint patterns p a r c
  put_behind (Ok None) (stored, says) = record { since = since_joined a b c names.since says.1.since; made = λ h lawful fits. (stored, asked_behind (Ok stored) says h lawful fits) }
  put_behind (Ok (Some kind)) says = record { since = since_joined a b c names.since says.1.since; made = λ h lawful fits. inr (asked_behind (Err (put.Exhausted kind)) says h lawful fits) }
  put_behind (Err fault) says = record { since = since_joined a b c names.since says.1.since; made = λ h lawful fits. inr (asked_behind (Err (put_fault fault)) says h lawful fits) }

-- no put was begun
pub put_full : (patterns : Patterns) (p : DataPoint) (a b : Seen) (kind : Kind) → Names patterns a (names_of p) (Ok (Some kind)) b → PutsPoint patterns p a (Ok (Some kind)) b
put_full patterns p a b kind names = record { since = names.since; made = λ h lawful fits. inl (names.made h lawful fits) }

pub put_failed : (patterns : Patterns) (p : DataPoint) (a b : Seen) (fault : RowsFault) → Names patterns a (names_of p) (Err fault) b → PutsPoint patterns p a (Err fault) b
put_failed patterns p a b fault names = record { since = names.since; made = λ h lawful fits. inl (names.made h lawful fits) }

-- ---- which faults may come
all_made : (patterns : Patterns) (kind : Kind) → makes (open_to patterns).config kind ≡ true
all_made patterns Metric = refl
all_made patterns TagKey = refl
all_made patterns TagValue = refl

-- a lawful history that fits what was seen, if the put left one
module _ (patterns : Patterns) (p : DataPoint) (old new : Seen) (all : AllowsAll patterns) where
  pub open_fault : (fault : PutFault) (says : PutSays (open_to patterns) p old (Err fault) new) (h : History) → IsLawful h → Fits new h → IsFaultOfOpen fault
  open_fault (put.Unknown kind name) says h lawful fits = let u = (says.2 h lawful fits).1 in absurd (true≢false (sym (all_made patterns kind) ∙ u.0))
  open_fault (put.Filtered kind name) says h lawful fits = let f = (says.2 h lawful fits).1 in absurd (true≢false (sym (all.allows kind name) ∙ f.1))
  open_fault (put.Exhausted kind) says h lawful fits = tt
  open_fault put.OutOfMemory says h lawful fits = tt
  open_fault put.Stopped says h lawful fits = tt

-- what a fault is told as
pub told_put : (patterns : Patterns) (p : DataPoint) (old new : Seen) (fault : PutFault) (r : Result (Option Kind) RowsFault) → TellsFault fault r → PutSays (open_to patterns) p old (Err fault) new → SaysPut patterns p old r new
told_put patterns p old new fault (Ok None) told says = absurd told
told_put patterns p old new fault (Ok (Some kind)) told says = subst (λ (f : PutFault). PutSays (open_to patterns) p old (Err f) new) told says
told_put patterns p old new fault (Err f) told says = subst (λ (g : PutFault). PutSays (open_to patterns) p old (Err g) new) told says

-- ---- the put of a text that reads as a point
ok_is : (p q : DataPoint) → ◌≡◌ {A = Result DataPoint PointFault} (Ok p) (Ok q) → p ≡ q
ok_is p q e = cc

pub read_put : (patterns : Patterns) (text : List ℕ) (p : DataPoint) (old mid new : Seen) (answer : Result Stored PutFault) → point_of text ≡ Ok p → new ≡ mid → (q : DataPoint) → point_of text ≡ Ok q → PutSays (open_to patterns) q old answer mid
    → PutSays (open_to patterns) p old answer new
read_put patterns text p old mid new answer is same q other says =
    subst (λ (x : DataPoint × Seen). PutSays (open_to patterns) x.0 old answer x.1) (λ i. (ok_is q p (sym other ∙ is) i, sym same i)) says

-- no put was begun for want of memory
pub nothing_put : (patterns : Patterns) (p : DataPoint) (old new : Seen) → Made old [] new → SaysPut patterns p old (Err rows.OutOfMemory) new
nothing_put patterns p old new made = ([], made, λ h lawful fits. none_in_turn (open_to patterns) (first new.length h) (names_of p))

-- ---- the put of a known series
known_reads : (text : List ℕ) (line : TextParts) (s : Seen) (k : KnownSeries) → HasTextParts text line → k.metric ≡ line.metric.now → k.tags ≡ line.tags.now → IsShownSeries s k
    → point_of text ≡ Ok (point_at (data_point k.placed.point) line.time line.fine line.value)
known_reads text line s k l m t h =
    text_reads text line k.placed.point.metric k.placed.point.tags l (record { name_is = ap name_of (sym m) ∙ h.reads.name_is; tags_are = ap tags_read (sym t) ∙ h.reads.tags_are })

module _ (patterns : Patterns) (text : List ℕ) (line : TextParts) (old mid new : Seen) (k : KnownSeries) (same : new ≡ mid) (parts : HasTextParts text line) (m : k.metric ≡ line.metric.now) (t : k.tags ≡ line.tags.now) (shown : IsShownSeries old k) where
  abbrev known_point : DataPoint
  known_point = point_at (data_point k.placed.point) line.time line.fine line.value

  abbrev KnownSays : Result Stored PutFault → Type 0
  KnownSays answer = (c : Admission) → c.config.appends ≡ false → PutSays c known_point old answer mid

  known_asked : (answer : Result Stored PutFault) (says : KnownSays answer) → (h : History) → IsLawful h → Fits mid h → AskedPut patterns h old.caller old.length mid.length known_point answer
  known_asked answer says h lawful fits =
      let s = says (open_to patterns) refl in
      let before = s.1.since.extends.fits h fits in
      record {
        last = old.length;
        named = shown_named patterns old h lawful before (names_of known_point) shown.placed.names;
        in_range = s.1.since.extends.length;
        asked = subst (λ list. PointAsked (open_to patterns) known_point (first mid.length h) list answer) (sym (s.1.made h fits)) (s.2 h lawful fits);
      }

  pub known_put : (stored : Stored) → KnownSays (Ok stored) → PutsText patterns text old (Ok outcome.Taken) new
  known_put stored says = subst (λ (s : Seen). PutsText patterns text old (Ok outcome.Taken) s) (sym same) (record {
    since = (says (open_to patterns) refl).1.since;
    made = λ h lawful fits. (known_point, known_reads text line old k parts m t shown, (stored, known_asked (Ok stored) says h lawful fits));
  })

  pub known_failed : (fault : RowsFault) → KnownSays (Err (put_fault fault)) → PutsText patterns text old (Err fault) new
  known_failed fault says = subst (λ (s : Seen). PutsText patterns text old (Err fault) s) (sym same) (record {
    since = (says (open_to patterns) refl).1.since;
    made = λ h lawful fits. inr (known_point, known_reads text line old k parts m t shown, inr (known_asked (Err (put_fault fault)) says h lawful fits));
  })

-- by an admission of no kind no fault of names comes
abbrev pub closed : Admission
closed = record { config = record { auto_metric = false; auto_tag_key = false; auto_tag_value = false; appends = false }; patterns = record { metric = None; tag_key = None; tag_value = None } }

-- what was said of a put, by its answer and under other names of the series and of the value
pub err_said : (p : DataPoint) (old mid : Seen) (stored : Stored) (r : Result (Unit {0}) PutFault) (field fault : PutFault) → r ≡ Err field → field ≡ fault → ((c : Admission) → c.config.appends ≡ false → PutSays c p old (answer_at r stored) mid)
    → (c : Admission) → c.config.appends ≡ false → PutSays c p old (Err fault) mid
err_said p old mid stored r field fault is same says c cells =
    subst (λ (f : PutFault). PutSays c p old (Err f) mid) same (subst (λ (x : Result (Unit {0}) PutFault). PutSays c p old (answer_at x stored) mid) is (says c cells))

pub series_said : (old mid : Seen) (k k' : PlacedPoint) (time : ℕ) (fine : Bool) (value value' : ℤ) (answer : Result Stored PutFault) → k' ≡ k → value' ≡ value → ((c : Admission) → c.config.appends ≡ false → PutSays c (point_at (data_point k'.point) time fine value') old answer mid)
    → (c : Admission) → c.config.appends ≡ false → PutSays c (point_at (data_point k.point) time fine value) old answer mid
series_said old mid k k' time fine value value' answer a b says c cells =
    subst (λ (x : PlacedPoint × ℤ). PutSays c (point_at (data_point x.0.point) time fine x.1) old answer mid) (λ i. (a i, b i)) (says c cells)

-- ---- what became of a text by what became of its point
module _ (patterns : Patterns) (text : List ℕ) (p : DataPoint) (is : point_of text ≡ Ok p) (old new : Seen) where
  pub text_taken : PutsPoint patterns p old (Ok None) new → PutsText patterns text old (Ok outcome.Taken) new
  text_taken puts = record { since = puts.since; made = λ h lawful fits. (p, is, puts.made h lawful fits) }

  pub text_full : (kind : Kind) → PutsPoint patterns p old (Ok (Some kind)) new → PutsText patterns text old (Ok (outcome.Full kind)) new
  text_full kind puts = record { since = puts.since; made = λ h lawful fits. (p, is, puts.made h lawful fits) }

  pub text_failed : (fault : RowsFault) → PutsPoint patterns p old (Err fault) new → PutsText patterns text old (Err fault) new
  text_failed fault puts = record { since = puts.since; made = λ h lawful fits. inr (p, is, puts.made h lawful fits) }

pub text_memory : (patterns : Patterns) (text : List ℕ) (s : Seen) (fault : RowsFault) → PutsText patterns text s (Err fault) s
text_memory patterns text s fault = record { since = (nothing_made s).since; made = λ h lawful fits. inl ((nothing_made s).made h fits) }

-- a fault that isn't want of memory is the text's own
own_fault : (read : Result DataPoint PointFault) (fault : PointFault) → is_memory fault ≡ false → FailsPoint fault read → read ≡ Err fault
own_fault read (point.FewWords found) other fails = fails
own_fault read (point.Metric fault) other fails = fails
own_fault read point.Time other fails = fails
own_fault read (point.Value fault) other fails = fails
own_fault read (point.TagForm index) other fails = fails
own_fault read (point.TagKey index fault) other fails = fails
own_fault read (point.TagValue index fault) other fails = fails
own_fault read (point.Tags fault) other fails = fails
own_fault read point.OutOfMemory other fails = absurd (true≢false other)

pub text_told : (patterns : Patterns) (text : List ℕ) (s : Seen) (fault : PointFault) (r : Result TextOutcome RowsFault) → FailsPoint fault (point_of text) → TellsUnread fault r → PutsText patterns text s r s
text_told patterns text s fault (Ok outcome.Taken) fails told = absurd told
text_told patterns text s fault (Ok (outcome.Full kind)) fails told = absurd told
text_told patterns text s fault (Ok (outcome.Unread f)) fails told = record {
  since = (nothing_made s).since;
  made = λ h lawful fits. (own_fault (point_of text) fault told.1 fails ∙ ap Err (sym told.0), (nothing_made s).made h fits);
}
text_told patterns text s fault (Err f) fails told = text_memory patterns text s f

pub stops_told : (fault : PointFault) (r : Result TextOutcome RowsFault) (n : ℕ) → TellsUnread fault r → CountsStops is_stop r n n
stops_told fault (Ok outcome) n told = record { grows = omega arith; rose = tt }
stops_told fault (Err f) n told = record { grows = omega arith; rose = subst (λ (x : RowsFault). RoseIf (is_stop x) n n) (sym told) tt }

-- ---- which faults the put of a known series has: by an admission of no kind none is given an id, and by one of all none is unknown
none_made : (kind : Kind) → makes closed.config kind ≡ false
none_made Metric = refl
none_made TagKey = refl
none_made TagValue = refl

module _ (p : DataPoint) (old new : Seen) (possible : IsPossible old) where
  pub never_unknown : (kind : Kind) (name : List ℕ) → PutSays (open_to closed.patterns) p old (Err (put.Unknown kind name)) new → ⊥
  never_unknown kind name says =
      let q = says.1.since.lives possible in
      let u = (says.2 q.history q.lawful q.fits).1 in
      true≢false (sym (all_made closed.patterns kind) ∙ u.0)

  pub never_filtered : (kind : Kind) (name : List ℕ) → PutSays closed p old (Err (put.Filtered kind name)) new → ⊥
  never_filtered kind name says =
      let q = says.1.since.lives possible in
      let f = (says.2 q.history q.lawful q.fits).1 in
      true≢false (sym f.0 ∙ none_made kind)

  pub never_full : (kind : Kind) → PutSays closed p old (Err (put.Exhausted kind)) new → ⊥
  never_full kind says =
      let q = says.1.since.lives possible in
      let f = (says.2 q.history q.lawful q.fits).2 in
      true≢false (sym f.0.0 ∙ none_made kind)

  pub rows_fault : (fault : PutFault) → ((c : Admission) → c.config.appends ≡ false → PutSays c p old (Err fault) new) → IsFaultOfRows fault
  rows_fault (put.Unknown kind name) says = absurd (never_unknown kind name (says (open_to closed.patterns) refl))
  rows_fault (put.Filtered kind name) says = absurd (never_filtered kind name (says closed refl))
  rows_fault (put.Exhausted kind) says = absurd (never_full kind (says closed refl))
  rows_fault put.OutOfMemory says = tt
  rows_fault put.Stopped says = tt
