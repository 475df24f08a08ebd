-- One step under a region's lock.
use Rattle.std.proofs.Common.{◌≡◌, ◌≢◌, ◌⊎◌, inl, inr, ℕ, ◌+◌, ◌≤◌, max, Bool, true, false, cond, List, [], ◌∷◌, ◌++◌, append-nil, refl, sym, ap, ◌∙◌, subst, arith, IsTrue}
use Rattle.std.specs.Prelude.{Some, None, Option, IsSomeAnd, Contains, ◌==◌, ◌||◌, ◌&&◌, nat_eq}
use Rattle.std.proofs.lemmas.List.Elements.{Contains-append_cases, Contains-append_left, Contains-append_right}
use Rattle.cell_model.specs.declared.row.Row.{Row}
use Rattle.cell_model.specs.declared.events.Step.{Step}
use Rattle.cell_model.specs.declared.events.Step.TheVariants.{Open, Read, NextRow, Bump, Claim, PutPoint, AppendPoint, PutMerged, DropCells}
use Rattle.cell_model.specs.declared.events.Reply.{Reply}
use Rattle.cell_model.specs.declared.events.Entry.{Entry}
use Rattle.cell_model.specs.declared.events.Placed.{Placed}
use Rattle.cell_model.specs.Store.{Store}
use Rattle.cell_model.specs.Machine.{after, reply_of, counter_row}
use Rattle.cell_model.specs.History.{History, entry_at}
use Rattle.cell_model.specs.Lawful.{MayStep}
use Rattle.cell_model.specs.Seen.{Seen, Saw, IsOwn, Stepped, IsPossible, Knows}
use Rattle.cell_model.specs.Deeds.{placed}
use Rattle.cell_laws.specs.StoreParts.{part, is_mine, StaysWithin, replayed}
use Rattle.cell_laws.specs.StoreParts.{is_in}
use Rattle.row_key.specs.declared.widths.Widths.{Widths}
use Rattle.row_key.specs.Regions.{region_number}
use Rattle.step_count.specs.declared.counter_rule.TheConstants.{OPENINGS}
use Rattle.step_count.specs.declared.view.Named.{Named}
use Rattle.step_count.specs.declared.view.View.{View}
use Rattle.step_count.specs.CounterRule.{Log, numbers_in, store_in, by_caller, is_open, in_region, Fits}
use Rattle.step_count.specs.ViewSteps.{Lives, MayAdd, HasLicence, regions_in, added, extended, met, first_named, without_licence, licence_alone, without, only}
use Rattle.region_locks.specs.CallerViews.{head_of, rest_of, seen_of, IsCaller, Replays}
use Rattle.region_locks.specs.StepOrders.{Covered}
use Rattle.region_locks.specs.StepEntries.{entry_of, InRange}
use Rattle.region_locks.proofs.Lower.{claim_differs, here, known_is_allowed, looks_in_one, nat_eq-refl, nat_eq_is, not_in, numbers_extended, one_or_none, picked_has, point_differs, replayed-snoc, split, there}
use Rattle.region_locks.proofs.SeenViews.{own_in, fits_seen, own_seen, possible}

same_number : (n : ℕ) → (n == n) ≡ true
same_number n = grind (arith)

-- a scan that begins in a region stays there
pub stays_within : (w : Widths) (D number : ℕ) (step : Step) → is_mine (is_in w D number) step ≡ true → InRange w step → StaysWithin (is_in w D number) step
stays_within w D number Open mine range = tt
stays_within w D number (Read row) mine range = tt
stays_within w D number (NextRow table from to) mine range =
    subst (λ n. StaysWithin (is_in w D n) (NextRow table from to)) (nat_eq_is (region_number w D table from) number mine) (looks_in_one w D table from to range)
stays_within w D number (Bump kind) mine range = tt
stays_within w D number (Claim row qual value) mine range = tt
stays_within w D number (PutPoint point row qual value) mine range = tt
stays_within w D number (AppendPoint point row piece) mine range = tt
stays_within w D number (PutMerged row qual value) mine range = tt
stays_within w D number (DropCells row which) mine range = tt

-- the region's body can make the step
pub covered : (w : Widths) (D number : ℕ) (covers : Row → Bool) (s : Seen) (step : Step) → ((row : Row) → IsTrue (is_in w D number row) → IsTrue (covers row)) → is_mine (is_in w D number) step ≡ true → InRange w step → IsPossible s → Knows s step → Covered w covers step
covered w D number covers s Open all m r p k = absurd k
covered w D number covers s (Read row) all m r p k = all row m
covered w D number covers s (NextRow table from to) all m r p k = (r, λ row b. all row (stays_within w D number (NextRow table from to) m r row b))
covered w D number covers s (Bump kind) all m r p k = all counter_row m
covered w D number covers s (Claim row qual value) all m r p k = (all row m, λ e. claim_differs p.history s.caller row qual value p.lawful (known_is_allowed s p.history (Claim row qual value) p.lawful p.fits k) (sym e))
covered w D number covers s (PutPoint point row qual value) all m r p k = (all row m, λ e. point_differs row k.in_points (sym e))
covered w D number covers s (AppendPoint point row piece) all m r p k = (all row m, λ e. point_differs row k.put.in_points (sym e))
covered w D number covers s (PutMerged row qual value) all m r p k = (all row m, λ e. point_differs row k.in_points (sym e))
covered w D number covers s (DropCells row which) all m r p k = (all row m, λ e. point_differs row k.in_points (sym e))

-- what fits the pass with the licence fits the pass
fits_back : (n : Named) (h : History) (v l : View) → v.named ≡ Some n → Lives v → Fits n h (met v l) → Fits n h v
fits_back n h v l named live f = record {
  named = λ m e. f.named m (ap (λ b. first_named b l.named) e);
  long = let a = f.long in omega (arith, a);
  seen = λ p c. f.seen p (Contains-append_left v.seen l.seen p c);
  callers = λ c log has.
      let g = f.callers c log (Contains-append_left v.callers l.callers (c, log) has) in
      record { opened = g.opened; all = g.all; each = λ p i. (own_seen v live c log has p i).1 };
  regions = λ r log has. f.regions r log (Contains-append_left v.licences l.licences (r, log) has);
}

-- the entry may be added
pub may_add : (name : Named) (number : ℕ) (content : Store) (covers : Row → Bool) (v l : View) (step : Step) (reply : Reply) → IsCaller name v → Replays name number content covers l
    → is_mine (is_in name.widths name.data_regions number) step ≡ true → InRange name.widths step → Knows (seen_of v) step → ((place : ℕ) → reply ≡ reply_of content place step)
    → MayAdd (met v l) (entry_of (met v l) step reply)
may_add name number content covers v l step reply c r mine range knows replied = record {
  name = name;
  named = ap (λ b. first_named b l.named) c.named;
  own = c.first.1;
  caller = subst (λ (cs : List Log). Contains (cs ++ l.callers) (head_of (cs ++ l.callers), c.first.1)) (sym c.callers) (here c.first (c.others ++ l.callers));
  region = number;
  log = r.log;
  licence = Contains-append_right v.licences l.licences (number, r.log) (subst (λ (ls : List Log). Contains ls (number, r.log)) (sym r.licence) (here (number, r.log) []));
  mine = mine;
  stays = stays_within name.widths name.data_regions number step mine range;
  reply = λ place. replied place ∙ ap (λ s. reply_of s place step) r.content_is;
  may = λ h over f.
      let g = fits_back name h v l c.named c.live f in
      let same : head_of v.callers ≡ head_of (v.callers ++ l.callers) = ap head_of c.callers ∙ sym (ap (λ (cs : List Log). head_of (cs ++ l.callers)) c.callers) in
      subst (λ k. MayStep h k step) same (known_is_allowed (seen_of v) h step over.lawful (fits_seen name h v c.first c.others c.callers c.named over g) knows);
}

extended_has : (test : ℕ → Entry → Bool) (p : Placed) (ls : List Log) (c : ℕ) (log : List Placed) → Contains ls (c, log) → Contains (extended test p ls) (c, log ++ cond (test c p.entry) (p ∷ []) [])
extended_has test p [] c log has = absurd (not_in (c, log) has)
extended_has test p (l ∷ ls) c log has = at (split l (c, log) ls has) (extended_has test p ls c log)
  where
    at : (l ≡ (c, log)) ⊎ Contains ls (c, log) → (Contains ls (c, log) → Contains (extended test p ls) (c, log ++ cond (test c p.entry) (p ∷ []) [])) → Contains (extended test p (l ∷ ls)) (c, log ++ cond (test c p.entry) (p ∷ []) [])
    at (inl e) go = subst (λ (x : Log). Contains (extended test p (l ∷ ls)) (x.0, x.1 ++ cond (test x.0 p.entry) (p ∷ []) [])) e (here _ (extended test p ls))
    at (inr i) go = there _ _ (extended test p ls) (go i)

module _ (name : Named) (number : ℕ) (content : Store) (covers : Row → Bool) (vlen llen place : ℕ) (vs ls log : List Placed) (first : Log) (others : List Log) (step : Step) (reply : Reply) where
  abbrev E : Entry
  E = record { caller = first.0; step = step; reply = reply }

  abbrev P : Placed
  P = placed place E

  abbrev V : View
  V = record { named = Some name; length = vlen; seen = vs; callers = first ∷ others; licences = [] }

  abbrev L : View
  L = record { named = Some name; length = llen; seen = ls; callers = []; licences = (number, log) ∷ [] }

  abbrev W : View
  W = added (met V L) place E

  abbrev Logs : List Log
  Logs = extended by_caller P (first ∷ (others ++ []))

  abbrev Unlicensed : View
  Unlicensed = record { named = Some name; length = place; seen = P ∷ (vs ++ ls); callers = Logs; licences = [] }

  abbrev Licence : View
  Licence = record { named = Some name; length = place; seen = P ∷ (vs ++ ls); callers = []; licences = (number, log ++ P ∷ []) ∷ [] }

  module _ (mine : is_mine (is_in name.widths name.data_regions number) step ≡ true) (content_is : content ≡ replayed (part (is_in name.widths name.data_regions number) (store_in name)) log) (rows_are : covers ≡ is_in name.widths name.data_regions number)
      (old : Lives V) (le : max vlen llen + 1 ≤ place) (lives : Lives W) where
    licensed : W.licences ≡ (number, log ++ P ∷ []) ∷ []
    licensed = ap (λ b. (number, log ++ cond (b || (is_open step && nat_eq number OPENINGS)) (P ∷ []) []) ∷ []) mine

    without_one : (t : List Placed) → without number ((number, t) ∷ []) ≡ []
    without_one t = ap (λ b. cond b [] ((number, t) ∷ [])) (same_number number)

    only_one : (t : List Placed) → only number ((number, t) ∷ []) ≡ (number, t) ∷ []
    only_one t = ap (λ b. cond b ((number, t) ∷ []) []) (same_number number)

    ridden : without_licence number W ≡ Unlicensed
    ridden = λ i. record { named = Some name; length = place; seen = P ∷ (vs ++ ls); callers = Logs; licences = (ap (without number) licensed ∙ without_one (log ++ P ∷ [])) i }

    licence_is : licence_alone number W ≡ Licence
    licence_is = λ i. record { named = Some name; length = place; seen = P ∷ (vs ++ ls); callers = []; licences = (ap (only number) licensed ∙ only_one (log ++ P ∷ [])) i }

    lives_after : Lives Unlicensed
    lives_after = record {
      name = lives.name;
      history = lives.history;
      over = lives.over;
      fits = record { named = lives.fits.named; long = lives.fits.long; seen = lives.fits.seen; callers = lives.fits.callers; regions = λ r t a. absurd (not_in (r, t) a) };
      within = lives.within;
      whole = lives.whole;
      once = lives.once;
    }

    caller_after : IsCaller name Unlicensed
    caller_after = record { named = refl; free = refl; first = (first.0, first.1 ++ cond (by_caller first.0 E) (P ∷ []) []); others = extended by_caller P (others ++ []); callers = refl; live = lives_after }

    licence_after : Replays name number (after content place step) covers Licence
    licence_after = record {
      named = refl;
      nobody = refl;
      log = log ++ P ∷ [];
      licence = refl;
      content_is = ap (λ s. after s place step) content_is ∙ sym (replayed-snoc (part (is_in name.widths name.data_regions number) (store_in name)) log P);
      rows_are = rows_are;
    }

    same_rest : rest_of Logs ≡ rest_of (first ∷ others)
    same_rest = numbers_extended by_caller P (others ++ []) ∙ ap numbers_in (append-nil others)

    -- an own entry that is seen now is the new one, or was seen
    own_after : (q : ℕ) (x : Entry) → Contains (P ∷ (vs ++ ls)) (placed q x) → IsOwn (seen_of V) x.caller → q ≢ place → Saw (seen_of V) q x
    own_after q x now own ne =
        let w = own_in (first ∷ others) first others refl x.caller own in
        let g = lives.fits.callers x.caller _ (extended_has by_caller P (first ∷ (others ++ [])) x.caller w.0 (Contains-append_left (first ∷ others) [] (x.caller, w.0) w.1)) in
        let at : entry_at lives.history q ≡ Some x = lives.fits.seen (placed q x) now in
        let there_q = subst (λ (xs : List Placed). Contains xs (placed q x)) g.all (picked_has (by_caller x.caller) lives.history q x at (nat_eq-refl x.caller)) in
        elim (Contains-append_cases w.0 (cond (by_caller x.caller E) (P ∷ []) []) (placed q x) there_q) [
          | inl i ↦ own_seen V old x.caller w.0 w.1 (placed q x) i
          | inr i ↦ absurd (ne (ap (λ (y : Placed). y.place) (sym (one_or_none (by_caller x.caller E) P (placed q x) i).1)))
        ]

    stepped_after : Stepped (seen_of V) step reply (seen_of Unlicensed)
    stepped_after = record {
      base = refl;
      caller = refl;
      absorbed = same_rest;
      length = omega (arith, le);
      kept = λ q x saw. ((let a = saw.0 in omega (arith, a, le)), there P (placed q x) (vs ++ ls) (Contains-append_left vs ls (placed q x) saw.1));
      stepped = (omega arith, here P (vs ++ ls));
      no_own = λ q x saw own ne. own_after q x saw.1 own ne;
      alone = refl;
      next = λ a. absurd (false≠true a);
    }
      where
        false≠true : false ≡ true → ⊥
        false≠true e = cc

    all : IsCaller name (without_licence number W) × Replays name number (after content place step) covers (licence_alone number W) × Stepped (seen_of V) step reply (seen_of (without_licence number W)) × IsPossible (seen_of (without_licence number W))
    all = (
      subst (IsCaller name) (sym ridden) caller_after,
      subst (Replays name number (after content place step) covers) (sym licence_is) licence_after,
      subst (λ (x : View). Stepped (seen_of V) step reply (seen_of x)) (sym ridden) stepped_after,
      subst (λ (x : View). IsPossible (seen_of x)) (sym ridden) (possible name Unlicensed caller_after),
    )

-- the step at the views that the calls name
pub did_as : (name : Named) (number : ℕ) (content after_it : Store) (covers covers' : Row → Bool) (v l u w v1 l1 : View) (step : Step) (reply : Reply) (place : ℕ)
    → IsCaller name v → Replays name number content covers l → is_mine (is_in name.widths name.data_regions number) step ≡ true → u ≡ met v l
    → w ≡ added u place (entry_of u step reply) → u.length + 1 ≤ place → Lives w → v1 ≡ without_licence number w → l1 ≡ licence_alone number w
    → after_it ≡ after content place step → covers' ≡ covers
    → IsCaller name v1 × Replays name number after_it covers' l1 × Stepped (seen_of v) step reply (seen_of v1) × IsPossible (seen_of v1)
did_as name number content after_it covers covers' v l u w v1 l1 step reply place c r mine met_is added_is le lives v_is l_is made same_covers =
    let vis : v ≡ V name number content covers v.length l.length place v.seen l.seen r.log c.first c.others step reply = λ i. record { named = c.named i; length = v.length; seen = v.seen; callers = c.callers i; licences = c.free i } in
    let lis : l ≡ L name number content covers v.length l.length place v.seen l.seen r.log c.first c.others step reply = λ i. record { named = r.named i; length = l.length; seen = l.seen; callers = r.nobody i; licences = r.licence i } in
    let wis : w ≡ W name number content covers v.length l.length place v.seen l.seen r.log c.first c.others step reply =
    added_is ∙ (λ i. added (met_is i) place (entry_of (met_is i) step reply)) ∙ (λ i. added (met (vis i) (lis i)) place (entry_of (met (vis i) (lis i)) step reply)) in
    let d = all name number content covers v.length l.length place v.seen l.seen r.log c.first c.others step reply mine r.content_is r.rows_are (subst Lives vis c.live)
    (let up : u.length ≡ max v.length l.length = ap (λ (x : View). x.length) met_is in omega (arith, up, le)) (subst Lives wis lives) in
    let vw = v_is ∙ ap (without_licence number) wis in
    let lw = l_is ∙ ap (licence_alone number) wis in (
      subst (IsCaller name) (sym vw) d.0,
      subst (λ (s : Store). Replays name number s covers' l1) (sym made) (subst (λ (f : Row → Bool). Replays name number (after content place step) f l1) (sym same_covers) (subst (Replays name number (after content place step) covers) (sym lw) d.1)),
      subst (λ (x : View). Stepped (seen_of v) step reply (seen_of x)) (sym vw) (subst (λ (x : View). Stepped (seen_of x) step reply (seen_of (without_licence number (W name number content covers v.length l.length place v.seen l.seen r.log c.first c.others step reply)))) (sym vis) d.2),
      subst (λ (x : View). IsPossible (seen_of x)) (sym vw) d.3,
    )

-- the licence is still there after the entry
pub has_licence : (name : Named) (number : ℕ) (content : Store) (covers : Row → Bool) (v l u w : View) (place : ℕ) (e : Entry) → Replays name number content covers l → u ≡ met v l → w ≡ added u place e → HasLicence number w
has_licence name number content covers v l u w place e r met_is added_is =
    let base : Contains (v.licences ++ l.licences) (number, r.log) = Contains-append_right v.licences l.licences (number, r.log) (subst (λ (ls : List Log). Contains ls (number, r.log)) (sym r.licence) (here (number, r.log) [])) in
    let in_u : Contains u.licences (number, r.log) = subst (λ (x : View). Contains x.licences (number, r.log)) (sym met_is) base in
    subst (HasLicence number) (sym added_is) (_, extended_has (in_region (regions_in u.named)) (placed place e) u.licences number r.log in_u)

-- what follows of what an option has
pub some_gives : {A : Type 0} {Q : A → Type 0} {P : Type 0} (o : Option A) → IsSomeAnd o Q → ((a : A) → Q a → P) → P
some_gives None h f = absurd h
some_gives (Some a) h f = f a h
