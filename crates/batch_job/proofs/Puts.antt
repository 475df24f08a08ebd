-- Putting points whose names have ids.
use Rattle.row_key.specs.Made.{three}
use Rattle.std.proofs.Common.{◌≡◌, ◌⊎◌, inl, inr, ⊎_elim, ℕ, ℤ, Bool, true, false, List, [], ◌∷◌, ◌++◌, refl, sym, ap, subst, ◌∙◌}
use Rattle.std.specs.Prelude.{◌↔◌, None, Ok, Err, Contains, option_and_then}
use Rattle.std.proofs.lemmas.Bool.{true≢false}
use Rattle.std.proofs.lemmas.List.Elements.{Contains-append_cases, Contains-append_left, Contains-append_right}
use Rattle.tsd_base.specs.declared.kinds.Kind.{Kind}
use Rattle.tsd_base.specs.Points.{DataPoint}
use Rattle.tsd_base.specs.TagList.{Pair}
use Rattle.cell_model.specs.declared.answers.Stored.{Stored}
use Rattle.cell_model.specs.declared.row.Row.{Row}
use Rattle.cell_model.specs.declared.events.Placed.{Placed}
use Rattle.cell_model.specs.declared.events.Step.TheVariants.{Read, Bump}
use Rattle.cell_model.specs.Deeds.{Made}
use Rattle.cell_model.specs.History.{History, first}
use Rattle.cell_model.specs.History.History.{Then}
use Rattle.cell_model.specs.IdRows.{id_number, id_of, name_row, AllResolved}
use Rattle.cell_model.specs.Layout.{names_of}
use Rattle.cell_model.specs.Lawful.{IsLawful}
use Rattle.cell_model.specs.KindWidths.{Widths}
use Rattle.cell_model.specs.Machine.{kind_qual}
use Rattle.cell_model.specs.Seen.{Seen, Fits}
use Rattle.cell_model.specs.Store.{value_at}
use Rattle.point_put.specs.Admissions.{Admission}
use Rattle.point_put.specs.declared.fault.PutFault.{PutFault}
use Rattle.point_put.specs.declared.fault.PutFault.TheVariants.{Exhausted, Filtered, Unknown}
use Rattle.point_put.specs.Configs.{makes}
use Rattle.tsd_hooks.specs.AllowedNames.{allowed}
use Rattle.tsd_base.specs.declared.kinds.Kind.TheVariants.{Metric, TagKey, TagValue}
use Rattle.point_put.specs.Entries.{ForNames}
use Rattle.point_put.specs.Entries.ForName.{none}
use Rattle.point_put.specs.PutPoint.{DidStore, PutSays, WasStored as PutSo}
use Rattle.point_put.proofs.CallerLemmas.{names_in_turn, names_to_end}
use Rattle.point_lines.specs.OpenRules.{AllowsAll}
use Rattle.batch_job.specs.PendingPuts.{Adds, AddsSome, AreResolved, points_in}
use Rattle.batch_job.specs.Storing.{HasOnlyPuts, IsAlone, IsOtherWrite, Puts, WasPut}
use Rattle.batch_job.proofs.Entering.{PutNothing, nothing_by, put_before, put_last, put_nothing, puts_stay, only_puts_follow, only_puts_then}
use Rattle.point_lines.proofs.CallerLemmas.{Ids_Points, put_keeps, rows_differ, tables_differ}
use Rattle.point_lines.proofs.CallerLemmas.{AreReads, names_read, reads_keep}
use Rattle.point_lines.proofs.CallerLemmas.{Went, follow, follow-append, went, alone_still}
use Rattle.batch_job.proofs.Lower.{here, not_in, split}

-- ---- entries that are reads
reads_put_nothing : (list : List Placed) → AreReads list → PutNothing list
reads_put_nothing list reads d c = let one = reads d c in nothing_by d (Read one.0) one.1 tt

-- ---- one point
module _ (old new : Seen) (c : Admission) (point : DataPoint) (resolved : AreResolved old (names_of point)) where
  module _ (list : List Placed) (made : Made old list new) (h : History) (lawful : IsLawful h) (fits : Fits new h) where
    w : Went old list new h
    w = went three old new list h made resolved.by lawful fits

    have : AllResolved (first old.length h) (names_of point)
    have = resolved.resolved h lawful w.fitted

    refused : {w : Widths} → ForNames w c (names_of point) list → AreReads list
    refused entries = names_read c (first old.length h) entries have w.lawful

    module _ (stored : Stored) (so : PutSo c point (first new.length h) list stored) (cells : c.config.appends ≡ false) where
      cut : follow (first old.length h) list ≡ Then (follow (first old.length h) so.names) so.put.entry
      cut = ap (follow (first old.length h)) so.list_is ∙ follow-append (first old.length h) so.names (so.put ∷ [])

      after : first new.length h ≡ Then (follow (first old.length h) so.names) so.put.entry
      after = w.after_is ∙ cut

      are_reads : AreReads so.names
      are_reads = names_read c (first old.length h) (names_in_turn so.entries) have (subst IsLawful cut w.lawful).0

      did : DidStore false (first new.length h) point stored.row so.put
      did = subst (λ appends. DidStore appends (first new.length h) point stored.row so.put) cells so.did

      ids_stay : (kind : Kind) (name : List ℕ) → id_of (first new.length h) kind name ≡ id_of (first old.length h) kind name
      ids_stay kind name =
          ap (λ x. id_of x kind name) after
          ∙ ap (option_and_then id_number)
          (put_keeps (follow (first old.length h) so.names) so.put.entry point stored.row did.qual did.value (name_row name) (kind_qual kind) did.did.0
          (rows_differ (name_row name) stored.row _ _ (tables_differ (name_row name) stored.row (λ e. Ids_Points (e ∙ did.layout.in_points))))
          ∙ ap (λ s. value_at s (name_row name) (kind_qual kind)) (reads_keep (first old.length h) so.names are_reads))

      puts_one : (r : DataPoint) → WasPut (first new.length h) r ↔ (WasPut (first old.length h) r ⊎ Contains (point ∷ []) r)
      puts_one r = (
        λ put. ⊎_elim
            (λ (before : WasPut (follow (first old.length h) so.names) r). inl (put_nothing (first old.length h) so.names (reads_put_nothing so.names are_reads) r before))
            (λ (now : Puts so.put.entry.step r).
            let same : point ≡ r = subst (λ s. Puts s r) did.did.0 now in
            inr (subst (Contains (point ∷ [])) same (here point [])))
            (put_before (follow (first old.length h) so.names) so.put.entry r (subst (λ x. WasPut x r) after put)),
        λ either. subst (λ x. WasPut x r) (sym after) (⊎_elim
            (λ (before : WasPut (first old.length h) r). subst (λ x. WasPut x r) cut (puts_stay (first old.length h) list r before))
            (λ (now : Contains (point ∷ []) r). put_last (follow (first old.length h) so.names) so.put.entry r
            (subst (λ s. Puts s r) (sym did.did.0) (⊎_elim (λ (same : point ≡ r). same) (λ (no : Contains [] r). absurd (not_in r no)) (split point r [] now))))
            either),
      )

      only_puts_one : HasOnlyPuts (first old.length h) → HasOnlyPuts (first new.length h)
      only_puts_one before =
          subst HasOnlyPuts (sym after)
          (only_puts_then (follow (first old.length h) so.names) so.put.entry (λ c. subst IsOtherWrite did.did.0 c) (only_puts_follow (first old.length h) so.names (reads_put_nothing so.names are_reads) before))

  pub put_adds : (stored : Stored) → PutSays c point old (Ok stored) new → c.config.appends ≡ false → Adds old (point ∷ []) new
  put_adds stored (list, made, asked) cells = record {
    by = alone_still three old new list made resolved.by;
    fits = made.since.extends.fits;
    ids = λ h lawful fits. ids_stay list made h lawful fits stored (asked h lawful fits) cells;
    puts = λ h lawful fits. puts_one list made h lawful fits stored (asked h lawful fits) cells;
    only_puts = λ h lawful fits. only_puts_one list made h lawful fits stored (asked h lawful fits) cells;
  }

  -- where each name is allowed none is filtered
  not_filtered : AllowsAll c.patterns → (kind : Kind) (name : List ℕ) → PutSays c point old (Err (Filtered kind name)) new → ⊥
  not_filtered all kind name (list, made, asked) =
      let p = made.since.lives resolved.by.possible in
      let x = asked p.history p.lawful p.fits in
      true≢false (sym (all.allows kind name) ∙ x.1.1)

  pub never_filtered : AllowsAll c.patterns → (fault : PutFault) (kind : Kind) (name : List ℕ) → fault ≡ Filtered kind name → PutSays c point old (Err fault) new → ⊥
  never_filtered all fault kind name is says = not_filtered all kind name (subst (λ (f : PutFault). PutSays c point old (Err f) new) is says)

  -- all names have ids, so no counter is asked
  not_exhausted : (kind : Kind) → PutSays c point old (Err (Exhausted kind)) new → ⊥
  not_exhausted kind (list, made, asked) =
      let p = made.since.lives resolved.by.possible in
      let x = asked p.history p.lawful p.fits in
      let reads = refused list made p.history p.lawful p.fits (names_to_end x.1) in
      let last = x.2.1 in
      let among : Contains list last.2 = subst (λ (ds : List Placed). Contains ds last.2) (sym last.3) (Contains-append_right last.0 (last.1 ∷ last.2 ∷ []) last.2 (Contains-append_right (last.1 ∷ []) (last.2 ∷ []) last.2 (here last.2 []))) in
      let read = reads last.2 among in
      not_a_bump read.0 kind (sym read.1 ∙ last.5.0)
    where
      not_a_bump : (row : Row) (kind : Kind) → Read row ≡ Bump kind → ⊥
      not_a_bump row kind e = cc

  pub never_exhausted : (fault : PutFault) (kind : Kind) → fault ≡ Exhausted kind → PutSays c point old (Err fault) new → ⊥
  never_exhausted fault kind is says = not_exhausted kind (subst (λ (f : PutFault). PutSays c point old (Err f) new) is says)

  -- where names of each kind are given ids none is unknown
  not_unknown : ((kind : Kind) → makes c.config kind ≡ true) → (kind : Kind) (name : List ℕ) → PutSays c point old (Err (Unknown kind name)) new → ⊥
  not_unknown all kind name (list, made, asked) =
      let p = made.since.lives resolved.by.possible in
      let x = asked p.history p.lawful p.fits in
      true≢false (sym (all kind) ∙ x.1.0)

  pub never_unknown : ((kind : Kind) → makes c.config kind ≡ true) → (fault : PutFault) (kind : Kind) (name : List ℕ) → fault ≡ Unknown kind name → PutSays c point old (Err fault) new → ⊥
  never_unknown all fault kind name is says = not_unknown all kind name (subst (λ (f : PutFault). PutSays c point old (Err f) new) is says)

-- where each new name of each kind is given an id
pub open_admission : Admission
open_admission = record {
  config = record { auto_metric = true; auto_tag_key = true; auto_tag_value = true; appends = false };
  patterns = record { metric = None; tag_key = None; tag_value = None };
}

pub open_cells : open_admission.config.appends ≡ false
unfolding open_admission
open_cells = refl

pub open_makes : (kind : Kind) → makes open_admission.config kind ≡ true
unfolding open_admission
open_makes Metric = refl
open_makes TagKey = refl
open_makes TagValue = refl

pub open_allows : AllowsAll open_admission.patterns
unfolding open_admission
open_allows = record { allows = allows }
  where
    allows : (kind : Kind) (name : List ℕ) → allowed (record { metric = None; tag_key = None; tag_value = None }) kind name ≡ true
    allows Metric name = refl
    allows TagKey name = refl
    allows TagValue name = refl

-- ---- point after point
pub adds_none : (s : Seen) → IsAlone s → AddsSome s (Contains []) s
adds_none s by = record {
  by = by;
  fits = λ h f. f;
  ids = λ h lawful fits kind name. refl;
  puts = λ h lawful fits r. (λ put. inl put, λ either. ⊎_elim (λ (put : WasPut (first s.length h) r). put) (λ (no : Contains [] r). absurd (not_in r no)) either);
  only_puts = λ h lawful fits before. before;
}

pub adds_then : (P Q R : DataPoint → Type 0) (a b c : Seen) → AddsSome a P b → AddsSome b Q c → ((r : DataPoint) → R r ↔ (P r ⊎ Q r)) → AddsSome a R c
adds_then P Q R a b c x y both = record {
  by = y.by;
  fits = λ h f. x.fits h (y.fits h f);
  ids = λ h lawful fits kind name. y.ids h lawful fits kind name ∙ x.ids h lawful (y.fits h fits) kind name;
  only_puts = λ h lawful fits before. y.only_puts h lawful fits (x.only_puts h lawful (y.fits h fits) before);
  puts = λ h lawful fits r. (
    λ put. ⊎_elim
        (λ (before : WasPut (first b.length h) r). ⊎_elim (λ (first_ : WasPut (first a.length h) r). inl first_) (λ (p : P r). inr ((both r).1 (inl p))) ((x.puts h lawful (y.fits h fits) r).0 before))
        (λ (q : Q r). inr ((both r).1 (inr q)))
        ((y.puts h lawful fits r).0 put),
    λ either. (y.puts h lawful fits r).1 (⊎_elim
        (λ (put : WasPut (first a.length h) r). inl ((x.puts h lawful (y.fits h fits) r).1 (inl put)))
        (λ (here_ : R r). ⊎_elim (λ (p : P r). inl ((x.puts h lawful (y.fits h fits) r).1 (inr p))) (λ (q : Q r). inr q) ((both r).0 here_))
        either),
  );
}

pub adds_alike : (P Q : DataPoint → Type 0) (a b : Seen) → AddsSome a P b → ((r : DataPoint) → P r ↔ Q r) → AddsSome a Q b
adds_alike P Q a b x same = record {
  by = x.by;
  fits = x.fits;
  ids = x.ids;
  only_puts = x.only_puts;
  puts = λ h lawful fits r. (
    λ put. ⊎_elim (λ (before : WasPut (first a.length h) r). inl before) (λ (p : P r). inr ((same r).0 p)) ((x.puts h lawful fits r).0 put),
    λ either. (x.puts h lawful fits r).1 (⊎_elim (λ (put : WasPut (first a.length h) r). inl put) (λ (q : Q r). inr ((same r).1 q)) either),
  );
}

-- one point, and then others
pub adds_joined : (a b c : Seen) (p : DataPoint) (points : List DataPoint) → Adds a (p ∷ []) b → Adds b points c → Adds a (p ∷ points) c
adds_joined a b c p points x y =
    adds_then (Contains (p ∷ [])) (Contains points) (Contains (p ∷ points)) a b c x y
    (λ r. (
      λ has. Contains-append_cases (p ∷ []) points r has,
      λ either. ⊎_elim (λ (e : Contains (p ∷ []) r). Contains-append_left (p ∷ []) points r e) (λ (e : Contains points r). Contains-append_right (p ∷ []) points r e) either,
    ))

-- what has ids keeps them
pub still_resolved : (P : DataPoint → Type 0) (a b : Seen) (names : List (Kind × List ℕ)) → AddsSome a P b → AreResolved a names → AreResolved b names
still_resolved P a b names x r = record {
  by = x.by;
  resolved = λ h lawful fits n has. let found = r.resolved h lawful (x.fits h fits) n has in (found.0, x.ids h lawful fits n.0 n.1 ∙ found.1);
}

-- ---- the points of a series
pub one_more : (metric : List ℕ) (tags : List Pair) (fine : Bool) (a b c : Seen) (done : List (ℕ × ℤ)) (d : ℕ × ℤ) → Adds a (points_in metric tags fine done) b → Adds b (points_in metric tags fine (d ∷ [])) c → Adds a (points_in metric tags fine (done ++ d ∷ [])) c
one_more metric tags fine a b c done d x y =
    adds_then (Contains (points_in metric tags fine done)) (Contains (points_in metric tags fine (d ∷ []))) (Contains (points_in metric tags fine (done ++ d ∷ []))) a b c x y
    (λ r. subst (λ (rs : List DataPoint). Contains rs r ↔ (Contains (points_in metric tags fine done) r ⊎ Contains (points_in metric tags fine (d ∷ [])) r)) (sym (map_append done)) (
      λ has. Contains-append_cases (points_in metric tags fine done) (points_in metric tags fine (d ∷ [])) r has,
      λ either. ⊎_elim (λ (e : Contains (points_in metric tags fine done) r). Contains-append_left (points_in metric tags fine done) (points_in metric tags fine (d ∷ [])) r e) (λ (e : Contains (points_in metric tags fine (d ∷ [])) r). Contains-append_right (points_in metric tags fine done) (points_in metric tags fine (d ∷ [])) r e) either,
    ))
  where
    map_append : (xs : List (ℕ × ℤ)) → points_in metric tags fine (xs ++ d ∷ []) ≡ points_in metric tags fine xs ++ points_in metric tags fine (d ∷ [])
    map_append [] = refl
    map_append (e ∷ xs) = ap (λ rs. (record { metric = metric; tags = tags; time = e.0; fine = fine; value = e.1 }) ∷ rs) (map_append xs)
