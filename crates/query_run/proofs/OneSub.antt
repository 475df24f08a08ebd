-- One sub query: what is said of it, by what its steps say.
use Rattle.std.proofs.Common.{◌≡◌, ℕ, ◌≤◌, true, false, List, [], ◌∷◌, ◌++◌, length, refl, sym, ap, subst, ◌∙◌, arith}
use Rattle.std.specs.Prelude.{ℤ, Contains, Option, None, Some, Result, Ok, Err, map}
use Rattle.std.specs.Global.{Vec}
use Rattle.std.specs.List.{AllZip, list_any}
use Rattle.std.proofs.lemmas.List.{length-map}
use Rattle.std.proofs.lemmas.List.Elements.{Contains-append_right}
use Rattle.tsd_base.specs.declared.kinds.Kind.{Kind}
use Rattle.tsd_base.specs.declared.kinds.Kind.TheVariants.{Metric}
use Rattle.row_key.specs.declared.widths.Widths.{Widths}
use Rattle.row_key.specs.declared.keys.RowKey.{RowKey}
use Rattle.row_key.specs.Key.{IsKey, key_bytes}
use Rattle.json_reply.specs.Replies.{Group, plain}
use Rattle.json_reply.specs.declared.reply.Group as code
use Rattle.query_text.specs.declared.queries.Query.{Query}
use Rattle.query_text.specs.declared.queries.Sub.{Sub}
use Rattle.query_text.specs.FilterTexts.{is_of_text}
use Rattle.query_text.specs.declared.queries.Filter.{Filter}
use Rattle.cell_model.specs.declared.row.Found.{Found}
use Rattle.cell_model.specs.declared.events.Placed.{Placed}
use Rattle.cell_model.specs.History.{History, first, store_after}
use Rattle.cell_model.specs.IdRows.{id_of, name_of}
use Rattle.cell_model.specs.Layout.{base_time}
use Rattle.cell_model.specs.Store.{Store}
use Rattle.cell_model.specs.Lawful.{IsLawful}
use Rattle.cell_model.specs.Readings.{point_row}
use Rattle.cell_model.specs.Seen.{Seen, IsPossible, Fits, InEach}
use Rattle.cell_model.specs.Deeds.{Made, Extends, InOrder}
use Rattle.uid_table.specs.Shown.{HasShown}
use Rattle.row_scan.specs.Laws.{ScanCovers}
use Rattle.row_scan.specs.Scans.{HasCell, IsStart}
use Rattle.tsd_base.specs.declared.kinds.Down.{Down}
use Rattle.span_merge.specs.Spans.{Span, KeepsSpans}
use Rattle.query_run.specs.declared.collection.Collected.{Collected}
use Rattle.metric_scan.specs.declared.fault.AskFault.{AskFault}
use Rattle.metric_scan.specs.declared.fault.AskFault.TheVariants.{TooManyBuckets, BadFilter, Unknown, Duplicate, Overflow, OutOfMemory, Stopped}
use Rattle.metric_scan.specs.declared.id_filter.IdFilter.{IdFilter}
use Rattle.query_run.specs.declared.value_judges.ValueJudge.{ValueJudge}
use Rattle.series_groups.specs.NamedSeries.{Series}
use Rattle.series_groups.specs.QueryAnswers.{answer, down_by}
use Rattle.series_groups.specs.NamedSeries.{points_in}
use Rattle.metric_scan.specs.Parts.{NameOf, Part, AreQuerySteps, AllResolved, PartStands, FirstUnknown}
use Rattle.query_run.specs.Asked.{Cause}
use Rattle.metric_scan.specs.IdFilters.{IsIdFilter, AreIdFilters, passes}
use Rattle.query_run.specs.ValueJudges.{filters_of}
use Rattle.query_run.specs.AskedQueries.{wanted, names_in, barred, answer_over, IsFew}
use Rattle.metric_scan.specs.RowNames.{IdOf, Names, ids_of, known}
use Rattle.metric_scan.specs.declared.metric_rows.MetricRows.{MetricRows}
use Rattle.metric_scan.specs.Walks.{Picks, KeyOf, Counted, RowIsNamed, RowRange, AreRowsOf, picked_by, row_range}
use Rattle.query_run.specs.Collection.{picks_in, Gathered, HasCollected, KeepsCollected, WasCut, FoundConflict, ConflictOf}
use Rattle.metric_scan.specs.ResolvedIds.{AreResolved, IsUnresolved, UnresolvedBy}
use Rattle.metric_scan.specs.RowTags.{ArePairs}
use Rattle.query_run.specs.SeriesTags.{CanTitle, Titles}
use Rattle.cell_model.specs.Stops.{CountsStops}
use Rattle.metric_scan.specs.AskFaults.{is_stop}
use Rattle.query_run.specs.SubQuery.{AreCollected, BuiltSays, GroupsSay, Later, SubRefused, SubSays}
use Rattle.query_run.proofs.Lower as lower
use Rattle.metric_scan.proofs.WalkSteps.{steps_joined, reads_steps}
use Rattle.query_run.proofs.Shown.{readings_in, as_points}
use Rattle.query_run.proofs.FilterIds.{id_now, picks_by}
use Rattle.query_run.proofs.RowReadings.{PicksBy}
use Rattle.query_run.proofs.Standing.{named_in, one_to_one, stands_in}
use Rattle.query_run.proofs.Conflicting.{StoodFound, found_stood, row_names, first_conflict_of}
use Rattle.query_run.proofs.FewerRows.{by_ids, plain_same, scanned_fewer}
use Rattle.query_run.proofs.Short.{few_rows, few_looks}

-- ---- it can't be worked

-- a sub query of which no entry was made is refused
no_part : (q : Query) (s : Sub) (now : Seen) (fault : AskFault) → ((h : History) → Cause (wanted q) names_in (barred q) (answer_over q) (IsFew q) s (record { own = []; shown = [] }) now.length h fault) → SubRefused q s now fault now
no_part q s now fault cause = record {
  part = record { own = []; shown = [] };
  made = lower.nothing_made now;
  steps = λ p c. absurd (lower.not_in p c);
  cause = λ h lawful fits. cause h;
  few = λ h lawful fits. few_looks (names_in s) s.metric (base_time q.start) (base_time q.end) [] (first now.length h) (omega arith);
}

pub sub_unbuilt : (q : Query) (s : Sub) (now : Seen) (fault : AskFault) → BuiltSays q s (Err fault) → SubRefused q s now fault now
sub_unbuilt q s now (TooManyBuckets count) is = no_part q s now (TooManyBuckets count) (λ h. (refl, is))
sub_unbuilt q s now (BadFilter index) is = no_part q s now (BadFilter index) (λ h. (refl, is))
sub_unbuilt q s now OutOfMemory is = no_part q s now OutOfMemory (λ h. tt)
sub_unbuilt q s now Stopped is = absurd is
sub_unbuilt q s now (Unknown kind name) is = absurd is
sub_unbuilt q s now (Duplicate time a b) is = absurd is
sub_unbuilt q s now (Overflow time) is = absurd is

-- a stop is no bar
pub unbuilt_stops : (q : Query) (s : Sub) (fault : AskFault) → BuiltSays q s (Err fault) → is_stop fault ≡ false
unbuilt_stops q s (TooManyBuckets count) is = refl
unbuilt_stops q s (BadFilter index) is = refl
unbuilt_stops q s OutOfMemory is = refl
unbuilt_stops q s Stopped is = absurd is
unbuilt_stops q s (Unknown kind name) is = absurd is
unbuilt_stops q s (Duplicate time a b) is = absurd is
unbuilt_stops q s (Overflow time) is = absurd is

-- ---- its names

abbrev metric_name : Sub → List NameOf
metric_name s = (Metric, s.metric) ∷ []

-- those before the first unknown one are resolved, in each lawful history that fits
pub first_unknown : (names : List NameOf) (list : List Placed) (new : Seen) (h : History) → IsLawful h → Fits new h → (kind : Kind) (name : List ℕ) → UnresolvedBy names list new (Unknown kind name) → FirstUnknown names (kind, name) list (first new.length h)
first_unknown names list new h lawful fits kind name u = record {
  before = u.before;
  after = u.after;
  cut = u.cut;
  resolved = λ n c. let w = u.shown n c in (w.0, w.1.stands new (lower.itself new) (first new.length h) (lower.first_lawful h new.length lawful) (lower.first_fits new h fits));
  none = u.none;
}

pub names_refused : (q : Query) (s : Sub) (old new : Seen) (fault : AskFault) → barred q s ≡ None → IsUnresolved old (names_in s) fault new → SubRefused q s old fault new
names_refused q s old new fault free u = record {
  part = record { own = u.list; shown = [] };
  made = u.made;
  steps = reads_steps u.list u.looks.reads;
  cause = λ h lawful fits. at fault u.cause h lawful fits;
  few = λ h lawful fits. few_looks (names_in s) s.metric (base_time q.start) (base_time q.end) u.list (first new.length h) u.looks.few;
}
  where
    at : (e : AskFault) → UnresolvedBy (names_in s) u.list new e → (h : History) → IsLawful h → Fits new h → Cause (wanted q) names_in (barred q) (answer_over q) (IsFew q) s (record { own = u.list; shown = [] }) new.length h e
    at (Unknown kind name) x h lawful fits = (free, first_unknown (names_in s) u.list new h lawful fits kind name x)
    at OutOfMemory x h lawful fits = tt
    at Stopped x h lawful fits = tt
    at (TooManyBuckets count) x h lawful fits = absurd x
    at (BadFilter index) x h lawful fits = absurd x
    at (Duplicate time a b) x h lawful fits = absurd x
    at (Overflow time) x h lawful fits = absurd x

-- ---- what judges its values

zip_long : {A B : Type 0} (R : A → B → Type 0) (xs : List A) (ys : List B) → AllZip R xs ys → length xs ≡ length ys
zip_long R [] [] z = refl
zip_long R [] (y ∷ ys) z = absurd z
zip_long R (x ∷ xs) [] z = absurd z
zip_long R (x ∷ xs) (y ∷ ys) z = let n = zip_long R xs ys z.1 in omega (arith, n)

-- there are as many as filters by ids
pub judges_as_many : (s : Sub) (seen : Seen) (list : List IdFilter) (judges : List ValueJudge) → AreIdFilters seen s.filters list → filters_of judges ≡ s.filters → length judges ≡ length list
judges_as_many s seen list judges by same = sym (length-map judges (λ (j : ValueJudge). j.judge)) ∙ ap length same ∙ zip_long (IsIdFilter seen) s.filters list by

-- ---- what stands of the names in a later history

-- a sub query's names were resolved, and then entries were made
pub record Begun (s : Sub) (id : ℕ) (filters : List IdFilter) (old mid new : Seen) (own : List Placed) : Type 0 where
  pub resolved : AreResolved old (names_in s) mid
  pub metric : HasShown mid Metric s.metric id
  pub by : AreIdFilters mid s.filters filters
  pub made : Made mid own new

-- by what was said when the rows were begun
pub begun : (s : Sub) (start end : ℕ) (rows : MetricRows) (old mid new : Seen) (own : List Placed) → AreResolved old (names_in s) mid → (a : AreRowsOf s start end mid rows) → Made mid own new → Begun s a.id rows.filters.items old mid new own
begun s start end rows old mid new own resolved a made = record { resolved = resolved; metric = a.metric; by = a.by; made = made }

module _ (s : Sub) (id : ℕ) (filters : List IdFilter) (old mid new : Seen) (own : List Placed) (b : Begun s id filters old mid new own) where
  abbrev looks : List Placed
  looks = b.resolved.list

  pub made_all : Made old (looks ++ own) new
  made_all = lower.made_joined old mid new looks own b.resolved.made b.made

  pub steps_all : AreQuerySteps own → AreQuerySteps (looks ++ own)
  steps_all steps = steps_joined looks own (reads_steps looks b.resolved.looks.reads) steps

  -- in each later history, up to what is seen
  module _ (later : Seen) (ext : Extends new later) (h : History) (lawful : IsLawful h) (fits : Fits later h) where
    abbrev g : History
    g = first later.length h

    pub g_lawful : IsLawful g
    g_lawful = lower.first_lawful h later.length lawful

    pub g_fits : Fits later g
    g_fits = lower.first_fits later h fits

    from_mid : Extends mid later
    from_mid = lower.extends_joined mid new later b.made.since.extends ext

    pub metric_known : id_of g Metric s.metric ≡ Some id
    metric_known = b.metric.stands later from_mid g g_lawful g_fits

    pub metric_named : name_of g Metric id ≡ Some s.metric
    metric_named = lower.names_back g Metric s.metric id g_lawful b.metric.is_name metric_known

    -- the widths that were seen are those of the history and of its beginning
    pub widths_in : mid.base.widths ≡ (store_after h).widths
    widths_in = ap (λ (x : Store). x.widths) (sym from_mid.base) ∙ lower.seen_widths later h fits

    pub widths_here : mid.base.widths ≡ (store_after g).widths
    widths_here = ap (λ (x : Store). x.widths) (sym from_mid.base) ∙ lower.seen_widths later g g_fits

    pub counted_here : (spare start end : ℕ) (founds : List Found) (ids : List IdOf) → Counted spare mid.base.widths id start end own founds ids → Counted spare (store_after g).widths id start end own founds ids
    counted_here spare start end founds ids c = subst (λ (w : Widths). Counted spare w id start end own founds ids) widths_here c

    pub all_resolved : AllResolved g (names_in s)
    all_resolved n c = let w = b.resolved.shown n c in (w.0, w.1.stands later from_mid g g_lawful g_fits)

    pub in_order : InOrder h later.length (looks ++ own)
    in_order =
        let o = lower.made_stands old new (looks ++ own) h made_all (ext.fits h fits) in
        let longer = ext.length in
        record { rising = o.rising; each = λ q c. let w = o.each q c in (let le = w.0 in omega (arith, le, longer), w.1) }

    pub stood : (spare : ℕ) (widths : Widths) (start end : ℕ) (founds : List Found) (ids : List IdOf) → Counted spare widths id start end own founds ids → (f : Found) → Contains founds f → StoodFound h later.length f
    stood spare widths start end founds ids counted f c =
        let x = found_stood spare widths id start end mid new own founds ids h counted b.made lawful (ext.fits h fits) f c in
        let le = x.up_to in
        let longer = ext.length in
        record { when = x.when; up_to = omega (arith, le, longer); has = x.has }

    -- the rows that were found are picked as the filters by names pick them
    pub pick : (spare start end : ℕ) (founds : List Found) (ids : List IdOf) → Counted spare (store_after g).widths id start end own founds ids → (f : Found) (key : RowKey) → Contains founds f → KeyOf (store_after g).widths id start end f key → PicksBy (picks_in filters s.filters g) s.filters (name_of g) key
    pick spare start end founds ids counted f key c of =
        picks_by g mid (λ kind name i shown. id_now mid later g kind name i from_mid g_lawful g_fits shown) s.filters filters key b.by of.is_key
        (row_names h later.length (store_after g).widths id start end f key lawful (stood spare (store_after g).widths start end founds ids counted f c) of)

    -- and the rows that are there
    pub pick_row : (key : RowKey) → IsKey (store_after g).widths key → HasCell (store_after g) (point_row (key_bytes (store_after g).widths key)) → PicksBy (picks_in filters s.filters g) s.filters (name_of g) key
    pick_row key is has =
        picks_by g mid (λ kind name i shown. id_now mid later g kind name i from_mid g_lawful g_fits shown) s.filters filters key b.by is
        (lower.row_stood h later.length later.length (key_bytes (store_after g).widths key) has.0 has.1 lawful (omega arith) has.2)

    -- where no test is of text, the filters by ids alone pick so
    pub plain_row : list_any (λ f. is_of_text f.test) s.filters ≡ false → (key : RowKey) → IsKey (store_after g).widths key → HasCell (store_after g) (point_row (key_bytes (store_after g).widths key)) → PicksBy (passes filters) s.filters (name_of g) key
    plain_row plain key is has tags named = sym (plain_same filters s.filters g key.pairs.items plain) ∙ pick_row key is has tags named

  pub few_later : (q : Query) (founds : List Found) (ids : List IdOf) → Counted 1 mid.base.widths id q.start q.end own founds ids → Later new (λ end h. IsFew q s (looks ++ own) (first end h))
  few_later q founds ids counted later ext h lawful fits =
      let here = counted_here later ext h lawful fits 1 q.start q.end founds ids counted in
      few_rows (names_in s) q.start q.end s.metric id looks own founds ids h later.length b.resolved.looks.few here lawful (metric_known later ext h lawful fits) (stood later ext h lawful fits 1 (store_after (first later.length h)).widths q.start q.end founds ids here)

-- ---- the rows

found_in_own : (picks : Picks) (spare : ℕ) (widths : Widths) (id start end : ℕ) (own : List Placed) (founds : List Found) (ids : List IdOf) (time : ℕ) (a b : ℤ) → Counted spare widths id start end own founds ids → (f : FoundConflict picks widths id start end own time a b) → Contains founds f.found
found_in_own picks spare widths id start end own founds ids time a b c f =
    c.shows f.at f.found (subst (λ (l : List Placed). Contains l f.at) (sym f.cut) (Contains-append_right f.earlier (f.at ∷ f.later) f.at (lower.here f.at f.later))) f.reply

module _ (q : Query) (s : Sub) (old mid new : Seen) (id : ℕ) (filters : List IdFilter) (free : barred q s ≡ None) where
  pub collect_refused : (fault : AskFault) (c : WasCut (row_range id q.start q.end mid) filters s.filters fault new) → Begun s id filters old mid new c.own → SubRefused q s old fault new
  collect_refused fault c b = at fault c.cause
    where
      refused : (e : AskFault) → InEach new (λ h. Cause (wanted q) names_in (barred q) (answer_over q) (IsFew q) s (record { own = b.resolved.list ++ c.own; shown = [] }) new.length h e) → SubRefused q s old e new
      refused e cause = record {
        part = record { own = b.resolved.list ++ c.own; shown = [] };
        made = made_all s id filters old mid new c.own b;
        steps = steps_all s id filters old mid new c.own b c.counted.steps;
        cause = cause;
        few = λ h lawful fits. few_later s id filters old mid new c.own b q c.founds c.ids c.counted new (lower.itself new) h lawful fits;
      }

      at : (e : AskFault) → InEach new (λ g. ConflictOf (picks_in filters s.filters g) mid.base.widths id q.start q.end c.own e) → SubRefused q s old e new
      at (Duplicate time x y) its =
          refused (Duplicate time x y) (λ h lawful fits.
          let widths = (store_after (first new.length h)).widths in
          let picks = picks_in filters s.filters (first new.length h) in
          let counted = counted_here s id filters old mid new c.own b new (lower.itself new) h lawful fits 1 q.start q.end c.founds c.ids c.counted in
          let shown = its (first new.length h) (g_lawful s id filters old mid new c.own b new (lower.itself new) h lawful fits) (g_fits s id filters old mid new c.own b new (lower.itself new) h lawful fits) in
          let f = subst (λ (w : Widths). FoundConflict picks w id q.start q.end c.own time x y) (widths_here s id filters old mid new c.own b new (lower.itself new) h lawful fits) shown in
          let found = found_in_own picks 1 widths id q.start q.end c.own c.founds c.ids time x y counted f in
          let stand = stood s id filters old mid new c.own b new (lower.itself new) h lawful fits 1 widths q.start q.end c.founds c.ids counted f.found found in
          let resolved = all_resolved s id filters old mid new c.own b new (lower.itself new) h lawful fits in
          let named = metric_named s id filters old mid new c.own b new (lower.itself new) h lawful fits in
          let known = metric_known s id filters old mid new c.own b new (lower.itself new) h lawful fits in
          let order = in_order s id filters old mid new c.own b new (lower.itself new) h lawful fits in
          let row = row_names h new.length widths id q.start q.end f.found f.conflict.key lawful stand f.conflict.of in (
            free,
            resolved,
            first_conflict_of picks h new.length q.start q.end s.metric s.filters id b.resolved.list c.own time x y lawful order b.resolved.looks.reads f (pick_row s id filters old mid new c.own b new (lower.itself new) h lawful fits) named known row
                (λ other key shows of. pick s id filters old mid new c.own b new (lower.itself new) h lawful fits 1 q.start q.end c.founds c.ids counted other key (counted.shows shows.placed other shows.among shows.reply) of),
          ))
      at OutOfMemory its = refused OutOfMemory (λ h lawful fits. tt)
      at Stopped its = refused Stopped (λ h lawful fits. tt)
      at (TooManyBuckets count) its = refused (TooManyBuckets count) (λ h lawful fits. absurd (its h lawful fits))
      at (BadFilter index) its = refused (BadFilter index) (λ h lawful fits. absurd (its h lawful fits))
      at (Unknown kind name) its = refused (Unknown kind name) (λ h lawful fits. absurd (its h lawful fits))
      at (Overflow time) its = refused (Overflow time) (λ h lawful fits. absurd (its h lawful fits))

-- ---- the groups

-- the ids of a series with a point are those of a row
pairs_titled : (list : List IdFilter) (filters : List Filter) (g : History) (widths : Widths) (id start end : ℕ) (founds : List Found) (spans : List Span) (names : Names) → Gathered (picks_in list filters g) widths id start end founds spans
    → ((f : Found) → Contains founds f → RowIsNamed (passes list) widths id start end names f) → (s : Span) → Contains spans s → ArePairs names s.0
pairs_titled list filters g widths id start end founds spans names gathered have s c = at s.1 refl (gathered.some s c)
  where
    at : (dots : List (ℕ × ℤ)) → s.1 ≡ dots → 1 ≤ length s.1 → ArePairs names s.0
    at [] e some = let n = ap length e in absurd (omega (arith, some, n))
    at (d ∷ dots) e some =
        let w = gathered.from s d c (subst (λ (l : List (ℕ × ℤ)). Contains l d) (sym e) (lower.here d dots)) in
        let row = have w.found w.among in
        let same : row.key ≡ w.key = lower.one_key widths row.key w.key row.of.is_key w.of.is_key (ap (λ x. x.bytes) (sym row.of.row_is ∙ w.of.row_is)) in
        let picked : passes list w.key.pairs.items ≡ true = by_ids list filters g w.key.pairs.items w.picked in
        subst (ArePairs names) w.pairs_are (record {
          some = w.of.is_key.some;
          most = w.of.is_key.most;
          rising = w.of.is_key.rising;
          named = λ i x. row.named (subst (λ (k : RowKey). passes list k.pairs.items ≡ true) (sym same) picked) i (subst (λ (k : RowKey). Contains (ids_of k.pairs.items) i) (sym same) x);
        })

can_title : (r : RowRange) (list : List IdFilter) (filters : List Filter) (new : Seen) (spans : List Span) (names : Names) → HasCollected r list filters spans names new → IsPossible new → CanTitle names spans
can_title r list filters new spans names c p = record {
  one = one_to_one names new p.history c.all.shown p.lawful p.fits;
  each = pairs_titled list filters p.history r.begun.base.widths r.id r.start r.end c.founds spans names (c.content p.history p.lawful p.fits) c.all.named;
}

pub are_collected : (list : List IdFilter) (how : Option Down) (q : Query) (s : Sub) (id : ℕ) (old new : Seen) (c : Collected) → how ≡ down_by q.ms s.how s.down → (k : KeepsCollected (row_range id q.start q.end old) list s.filters how c new) → IsPossible new → AreCollected q s c k.spans
are_collected list how q s id old new c is k p = record {
  keeps = subst (λ (h : Option Down). KeepsSpans h c.spans k.spans) is k.keeps;
  names = can_title (row_range id q.start q.end old) list s.filters new k.spans (known c.names) k.collected p;
  some = (k.collected.content p.history p.lawful p.fits).some;
  within = λ x d i j. ((k.collected.content p.history p.lawful p.fits).from x d i j).within;
}

-- the part of a sub query that was read to its end
module _ (q : Query) (s : Sub) (old mid new : Seen) (id : ℕ) (filters : List IdFilter) (free : barred q s ≡ None) (spans : List Span) (names : Names) (covering : ScanCovers) (c : HasCollected (row_range id q.start q.end mid) filters s.filters spans names new) (b : Begun s id filters old mid new c.own) where
  whole_part : List Series → Part
  whole_part series = record { own = b.resolved.list ++ c.own; shown = readings_in s.metric series }

  part_stands : (series : List Series) → Titles names spans series → Later new (λ end h. PartStands (wanted q s) (names_in s) (whole_part series) end h)
  unfolding whole_part
  part_stands series titles later ext h lawful fits =
      let g = first later.length h in
      let gl = g_lawful s id filters old mid new c.own b later ext h lawful fits in
      let gf = g_fits s id filters old mid new c.own b later ext h lawful fits in
      let here = widths_here s id filters old mid new c.own b later ext h lawful fits in
      let counted = counted_here s id filters old mid new c.own b later ext h lawful fits 1 q.start q.end c.founds c.all.ids c.all.counted in
      let picks = picks_in filters s.filters g in
      let content = subst (λ (w : Widths). Gathered picks w id q.start q.end c.founds spans) here (c.content g gl (ext.fits g gf)) in
      let starts = subst (λ (w : Widths). IsStart w id (base_time q.start) (base_time q.end) c.all.begin) (widths_in s id filters old mid new c.own b later ext h lawful fits) c.all.starts in
      stands_in picks q.start q.end s.metric s.filters id b.resolved.list c.own c.founds c.all.ids spans names series g b.resolved.looks.reads counted content titles (metric_named s id filters old mid new c.own b later ext h lawful fits)
      (metric_known s id filters old mid new c.own b later ext h lawful fits) (λ pairs tags n. named_in names new later g pairs tags c.all.shown ext gl gf n) (pick s id filters old mid new c.own b later ext h lawful fits 1 q.start q.end c.founds c.all.ids counted)
      (pick_row s id filters old mid new c.own b later ext h lawful fits) h later.length refl covering lawful (in_order s id filters old mid new c.own b later ext h lawful fits) c.all.begin starts (scanned_fewer (picked_by (passes filters)) (picked_by picks) (λ key e. by_ids filters s.filters g key.pairs.items e) c.all.whole) (names_in s) (all_resolved s id filters old mid new c.own b later ext h lawful fits)

  same_answer : (series : List Series) (wants : Result (List Group) ℕ) → answer q s (points_in s.metric series) ≡ wants → answer_over q s (readings_in s.metric series) ≡ wants
  same_answer series wants e = ap (answer q s) (as_points s.metric series) ∙ e

  refused_whole : (fault : AskFault) (shown : List Series) → InEach new (λ h. Cause (wanted q) names_in (barred q) (answer_over q) (IsFew q) s (whole_part shown) new.length h fault) → SubRefused q s old fault new
  unfolding whole_part
  refused_whole fault shown cause = record {
    part = whole_part shown;
    made = made_all s id filters old mid new c.own b;
    steps = steps_all s id filters old mid new c.own b c.all.counted.steps;
    cause = cause;
    few = λ h lawful fits. few_later s id filters old mid new c.own b q c.founds c.all.ids c.all.counted new (lower.itself new) h lawful fits;
  }

  pub groups_answered : (result : Result (Vec code.Group) AskFault) → GroupsSay q s names spans result → SubSays q s old result new
  unfolding whole_part
  groups_answered (Ok groups) (series, titles, e) = record {
    part = whole_part series;
    made = made_all s id filters old mid new c.own b;
    steps = steps_all s id filters old mid new c.own b c.all.counted.steps;
    free = free;
    stands = part_stands series titles;
    answers = same_answer series (Ok (map plain groups.items)) e;
    few = few_later s id filters old mid new c.own b q c.founds c.all.ids c.all.counted;
  }
  groups_answered (Err (Overflow time)) (series, titles, e) =
      refused_whole (Overflow time) series (λ h lawful fits. (free, part_stands series titles new (lower.itself new) h lawful fits, same_answer series (Err time) e))
  groups_answered (Err OutOfMemory) x = refused_whole OutOfMemory [] (λ h lawful fits. tt)
  groups_answered (Err Stopped) x = absurd x
  groups_answered (Err (TooManyBuckets count)) x = absurd x
  groups_answered (Err (BadFilter index)) x = absurd x
  groups_answered (Err (Unknown kind name)) x = absurd x
  groups_answered (Err (Duplicate time a z)) x = absurd x

-- a stop is told by no group
pub groups_stops : (q : Query) (s : Sub) (names : Names) (spans : List Span) (result : Result (Vec code.Group) AskFault) (before now : ℕ) → GroupsSay q s names spans result → before ≤ now → CountsStops is_stop result before now
groups_stops q s names spans (Ok groups) before now says grows = record { grows = grows; rose = tt }
groups_stops q s names spans (Err (Overflow time)) before now says grows = record { grows = grows; rose = tt }
groups_stops q s names spans (Err OutOfMemory) before now says grows = record { grows = grows; rose = tt }
groups_stops q s names spans (Err Stopped) before now says grows = absurd says
groups_stops q s names spans (Err (TooManyBuckets count)) before now says grows = absurd says
groups_stops q s names spans (Err (BadFilter index)) before now says grows = absurd says
groups_stops q s names spans (Err (Unknown kind name)) before now says grows = absurd says
groups_stops q s names spans (Err (Duplicate time a z)) before now says grows = absurd says
