-- Regions whose licences a pass takes one after another, and the store that they make at the end.
use Rattle.std.proofs.Common.{◌≡◌, ℕ, zero, suc, ◌+◌, ◌<◌, ◌≤◌, min, List, [], ◌∷◌, ◌++◌, map, length, append_assoc, append-nil, length-append, refl, sym, ap, ◌∙◌, subst, arith}
use Rattle.std.specs.Prelude.{Some, None, Contains, nat_eq, Bool, true, false, if◌then◌else◌, ◌||◌, ◌&&◌}
use Rattle.std.specs.declared.option.Option.{Option}
use Rattle.std.proofs.lemmas.List.Elements.{Contains-append_right}
use Rattle.atomic_table.specs.Seated.{TableId}
use Rattle.cell_model.specs.declared.events.Step.{Step}
use Rattle.cell_model.specs.declared.events.Step.TheVariants.{Open, Read, NextRow, Bump, Claim, PutPoint, AppendPoint, PutMerged, DropCells}
use Rattle.cell_model.specs.declared.events.Entry.{Entry}
use Rattle.cell_model.specs.declared.events.Placed.{Placed}
use Rattle.row_key.specs.declared.widths.Widths.{Widths}
use Rattle.cell_model.specs.Store.{Store}
use Rattle.cell_model.specs.History.{History, len, entry_at, store_after}
use Rattle.cell_model.specs.History.History.{Base, Then}
use Rattle.cell_model.specs.Lawful.{IsLawful, HasOpened}
use Rattle.cell_model.specs.Seen as seen
use Rattle.cell_model.specs.Seen.{IsOwn, Saw}
use Rattle.cell_model.specs.Deeds.{placed}
use Rattle.cell_laws.specs.StoreParts.{is_in, is_mine, part, picked}
use Rattle.cell_laws.specs.JoinedParts.{part_at}
use Rattle.cell_region.specs.declared.region.Region.{Region}
use Rattle.cell_region.specs.DividedStore.{DividedStore}
use Rattle.cell_region.specs.RegionLists.{cells_in, rows_of, InOrder, AreComplete, HaveParts}
use Rattle.step_count.specs.declared.counter_rule.TheConstants.{OPENINGS}
use Rattle.step_count.specs.declared.view.Named.{Named}
use Rattle.step_count.specs.declared.view.View.{View}
use Rattle.step_count.specs.declared.steps.Licence.{Licence}
use Rattle.step_count.specs.CounterRule.{Log, by_caller, is_open, opening, region_count, in_region, IsOver, Fits}
use Rattle.step_count.specs.Tokens.{view_of_licence}
use Rattle.step_count.specs.ViewSteps.{Lives, learned, met}
use Rattle.region_locks.specs.CallerViews.{opened_by, opened_numbers, seen_of, IsCaller, IsOpener, Replays}
use Rattle.region_locks.specs.SiteEnds.{took, AreReplays, Closed, EndsAt}
use Rattle.region_locks.specs.SiteStarts.{FollowOn, IsHeld}
use Rattle.cell_laws.proofs.CallerLemmas.{entry_at-last, entry_at-more}
use Rattle.region_locks.proofs.Lower.{base_widths, here, in_map, nat_eq-refl, not_in, parts_tell_store, picked_has, region_after}
use Rattle.region_locks.proofs.SeenViews.{own_in, own_seen, fits_seen}
use Rattle.region_locks.proofs.GreaterViews.{Sub, opener_log, sub_met, sub_other, sub_trans, sub_took, sub_learned, fits_sub}

took_append : (v : View) (xs ys : List View) → took v (xs ++ ys) ≡ took (took v xs) ys
took_append v [] ys = refl
took_append v (x ∷ xs) ys = took_append (met v x) xs ys

replays_append : (name : Named) (number : ℕ) (rs qs : List Region) (ls ks : List View) → AreReplays name number rs ls → AreReplays name (number + length rs) qs ks → AreReplays name number (rs ++ qs) (ls ++ ks)
replays_append name number [] qs [] ks a b = let same : number + 0 ≡ number = omega arith in subst (λ n. AreReplays name n qs ks) same b
replays_append name number [] qs (l ∷ ls) ks a b = absurd a
replays_append name number (r ∷ rs) qs [] ks a b = absurd a
replays_append name number (r ∷ rs) qs (l ∷ ls) ks a b =
    let same : number + length (r ∷ rs) ≡ number + 1 + length rs = omega arith in
    (a.0, replays_append name (number + 1) rs qs ls ks a.1 (subst (λ n. AreReplays name n qs ks) same b))

-- some regions, and then those behind them
pub closed_both : (name : Named) (first middle last : ℕ) (v u w : View) (bs cs ds : List Region) → Closed name first middle v bs u cs → Closed name middle last u cs w ds → Closed name first last v bs w ds
closed_both name first middle last v u w bs cs ds g h = record {
  regions = g.regions ++ h.regions;
  licences = g.licences ++ h.licences;
  added = h.added ∙ ap (λ xs. xs ++ h.regions) g.added ∙ append_assoc bs g.regions h.regions;
  took_them = h.took_them ∙ ap (λ x. took x h.licences) g.took_them ∙ sym (took_append v g.licences h.licences);
  replays = replays_append name (min first (region_count name)) g.regions h.regions g.licences h.licences g.replays (subst (λ n. AreReplays name n h.regions h.licences) (sym g.count) h.replays);
  count = let a = g.count in let b = h.count in let l = length-append g.regions h.regions in omega (arith, a, b, l);
}

-- one region that the site has
pub closed_one : (name : Named) (number : ℕ) (v u l : View) (bs cs : List Region) (region : Region) → number < region_count name → Replays name number (cells_in region) (rows_of region) l → u ≡ met v l → cs ≡ bs ++ region ∷ [] → Closed name number (number + 1) v bs u cs
closed_one name number v u l bs cs region lt r took_it added_it = record {
  regions = region ∷ [];
  licences = l ∷ [];
  added = added_it;
  took_them = took_it;
  replays = (let same : number ≡ min number (region_count name) = omega (arith, lt) in subst (λ n. Replays name n (cells_in region) (rows_of region) l) same r, tt);
  count = omega (arith, lt);
}

-- one that stood under its lock
pub closed_held : (counter : TableId) (name : Named) (number : ℕ) (v u : View) (bs cs : List Region) (region : Region) (o : Option Licence) (l : Licence) → o ≡ Some l → IsHeld counter name number (cells_in region) (rows_of region) o
    → u ≡ met v (view_of_licence l) → cs ≡ bs ++ region ∷ [] → Closed name number (number + 1) v bs u cs
closed_held counter name number v u bs cs region o l is held took_it added_it =
    let h = subst (IsHeld counter name number (cells_in region) (rows_of region)) is held in
    closed_one name number v u (view_of_licence l) bs cs region h.0 h.2 took_it added_it

-- one that it doesn't have
pub closed_none : (name : Named) (number : ℕ) (v : View) (bs : List Region) → region_count name ≤ number → Closed name number (number + 1) v bs v bs
closed_none name number v bs le = record {
  regions = [];
  licences = [];
  added = sym (append-nil bs);
  took_them = refl;
  replays = tt;
  count = omega (arith, le);
}

pub closed_absent : (counter : TableId) (name : Named) (number : ℕ) (v : View) (bs : List Region) (region : Region) (o : Option Licence) → o ≡ None → IsHeld counter name number (cells_in region) (rows_of region) o → Closed name number (number + 1) v bs v bs
closed_absent counter name number v bs region o is held = closed_none name number v bs (subst (IsHeld counter name number (cells_in region) (rows_of region)) is held)

-- five that follow one another
module _ (name : Named) (a b c d e : ℕ) (v v1 v2 v3 v4 v5 : View) (rs rs1 rs2 rs3 rs4 rs5 : List Region) where
  pub closed_five : FollowOn a b c d e → Closed name a (a + 1) v rs v1 rs1 → Closed name b (b + 1) v1 rs1 v2 rs2 → Closed name c (c + 1) v2 rs2 v3 rs3 → Closed name d (d + 1) v3 rs3 v4 rs4 → Closed name e (e + 1) v4 rs4 v5 rs5
      → Closed name a (a + 5) v rs v5 rs5
  closed_five order one two three four five =
      let b_is = order.0 in let c_is = order.1 in let d_is = order.2 in let e_is = order.3 in
      let to_b : a + 1 ≡ b = sym b_is in
      let to_c : b + 1 ≡ c = omega (arith, b_is, c_is) in
      let to_d : c + 1 ≡ d = omega (arith, c_is, d_is) in
      let to_e : d + 1 ≡ e = omega (arith, d_is, e_is) in
      let to_end : e + 1 ≡ a + 5 = omega (arith, e_is) in
      closed_both name a b (a + 5) v v1 v5 rs rs1 rs5 (subst (λ n. Closed name a n v rs v1 rs1) to_b one)
      (closed_both name b c (a + 5) v1 v2 v5 rs1 rs2 rs5 (subst (λ n. Closed name b n v1 rs1 v2 rs2) to_c two)
      (closed_both name c d (a + 5) v2 v3 v5 rs2 rs3 rs5 (subst (λ n. Closed name c n v2 rs2 v3 rs3) to_d three)
      (closed_both name d e (a + 5) v3 v4 v5 rs3 rs4 rs5 (subst (λ n. Closed name d n v3 rs3 v4 rs4) to_e four)
      (subst (λ n. Closed name e n v4 rs4 v5 rs5) to_end five))))

-- all regions of a site
module _ (name : Named) (v v1 v2 v3 v4 v5 : View) (rs rs1 rs2 rs3 rs4 rs5 : List Region) where
  pub closed_site : Closed name 0 5 v rs v1 rs1 → Closed name 5 10 v1 rs1 v2 rs2 → Closed name 10 15 v2 rs2 v3 rs3 → Closed name 15 20 v3 rs3 v4 rs4 → Closed name 20 25 v4 rs4 v5 rs5
      → Closed name 0 25 v rs v5 rs5
  closed_site one two three four five =
      closed_both name 0 5 25 v v1 v5 rs rs1 rs5 one
      (closed_both name 5 10 25 v1 v2 v5 rs1 rs2 rs5 two
      (closed_both name 10 15 25 v2 v3 v5 rs2 rs3 rs5 three
      (closed_both name 15 20 25 v3 v4 v5 rs3 rs4 rs5 four five)))

-- regions from a number on with their parts of a store
abbrev pub ArePartsFrom : Widths → ℕ → Store → ℕ → List Region → Type 0
ArePartsFrom w D s number [] = Unit {0}
ArePartsFrom w D s number (r ∷ rs) = (cells_in r ≡ part (is_in w D number) s) × (rows_of r ≡ is_in w D number) × ArePartsFrom w D s (number + 1) rs

-- the widths after a history are those of the named store
after_widths : (name : Named) (h : History) → IsOver name h → (store_after h).widths ≡ name.widths
after_widths name h over = sym (base_widths h) ∙ ap (λ (s : Store). s.widths) over.base

parts_of : (name : Named) (h : History) (number : ℕ) (rs : List Region) (ls : List View) (v u : View) → IsOver name h → Fits name h u → Sub (took v ls) u → AreReplays name number rs ls → ArePartsFrom name.widths name.data_regions (store_after h) number rs
parts_of name h number [] ls v u over f sub are = tt
parts_of name h number (r ∷ rs) [] v u over f sub are = absurd are
parts_of name h number (r ∷ rs) (l ∷ ls) v u over f sub are =
    let x = are.0 in
    let whole = sub_trans (met v l) (took (met v l) ls) u (sub_took (met v l) ls) sub in
    let has : Contains (met v l).licences (number, x.log) = Contains-append_right v.licences l.licences (number, x.log) (subst (λ (xs : List (ℕ × List Placed)). Contains xs (number, x.log)) (sym x.licence) (here (number, x.log) [])) in
    let log_is : picked (in_region name number) h ≡ x.log = f.regions number x.log (whole.licences number x.log has) in (
      x.content_is ∙ sym (region_after name number h x.log over log_is),
      x.rows_are,
      parts_of name h (number + 1) rs ls (met v l) u over f sub are.1,
    )

in_order : (w : Widths) (D : ℕ) (s : Store) (number : ℕ) (rs : List Region) → s.widths ≡ w → ArePartsFrom w D s number rs → InOrder w D number rs
in_order w D s number [] same a = tt
in_order w D s number (r ∷ rs) same a = (a.1, ap (λ (x : Store). x.widths) a.0 ∙ same, in_order w D s (number + 1) rs same a.2)

part_is : (w : Widths) (D : ℕ) (s : Store) (number : ℕ) (rs : List Region) (k : ℕ) → ArePartsFrom w D s number rs → k < length rs → part_at w (map cells_in rs) k ≡ part (is_in w D (number + k)) s
part_is w D s number [] k a lt = absurd (omega (arith, lt))
part_is w D s number (r ∷ rs) zero a lt = let same : number ≡ number + 0 = omega arith in a.0 ∙ ap (λ n. part (is_in w D n) s) same
part_is w D s number (r ∷ rs) (suc k) a lt = let same : number + 1 + k ≡ number + suc k = omega arith in part_is w D s (number + 1) rs k a.2 (omega (arith, lt)) ∙ ap (λ n. part (is_in w D n) s) same

-- an entry's caller opened
no_entry : (e : Entry) → None ≡ Some e → ⊥
no_entry e is = cc

abbrev pub Opened : History → ℕ → Type 0
Opened h caller = (place : ℕ) × (x : Entry) × (entry_at h place ≡ Some x) × (x.step ≡ Open) × (x.caller ≡ caller)

opened_first : (h : History) (last : Entry) (step : Step) → last.step ≡ step → HasOpened h last.caller step → Opened (Then h last) last.caller
opened_first h last Open is o = (len h + 1, last, entry_at-last h last, is, refl)
opened_first h last (Read row) is o = (o.0, _, entry_at-more h last _ o.0 o.1, refl, refl)
opened_first h last (NextRow table from to) is o = (o.0, _, entry_at-more h last _ o.0 o.1, refl, refl)
opened_first h last (Bump kind) is o = (o.0, _, entry_at-more h last _ o.0 o.1, refl, refl)
opened_first h last (Claim row qual value) is o = (o.0, _, entry_at-more h last _ o.0 o.1, refl, refl)
opened_first h last (PutPoint point row qual value) is o = (o.0, _, entry_at-more h last _ o.0 o.1, refl, refl)
opened_first h last (AppendPoint point row piece) is o = (o.0, _, entry_at-more h last _ o.0 o.1, refl, refl)
opened_first h last (PutMerged row qual value) is o = (o.0, _, entry_at-more h last _ o.0 o.1, refl, refl)
opened_first h last (DropCells row which) is o = (o.0, _, entry_at-more h last _ o.0 o.1, refl, refl)

caller_opened_in : (h : History) → IsLawful h → (place : ℕ) (e : Entry) → entry_at h place ≡ Some e → Opened h e.caller
caller_opened_in (Base base) l place e is = absurd (no_entry e is)
caller_opened_in (Then h last) l place e is = at (nat_eq place (len h + 1)) refl is (caller_opened_in h l.0)
  where
    at : (b : Bool) → nat_eq place (len h + 1) ≡ b → (if b then Some last else entry_at h place) ≡ Some e → ((place : ℕ) (e : Entry) → entry_at h place ≡ Some e → Opened h e.caller) → Opened (Then h last) e.caller
    at true eq is go =
        let same : last ≡ e = cc in
        subst (λ (x : Entry). Opened (Then h last) x.caller) same (opened_first h last last.step refl l.1.opened)
    at false eq is go = let o = go place e is in (o.0, o.1, entry_at-more h last o.1 o.0 o.2, o.3, o.4)

-- all that opened are those by whose licence they did
opened_listed : (name : Named) (h : History) (l : View) → IsLawful h → (o : IsOpener name l) → picked (in_region name OPENINGS) h ≡ o.log → (place : ℕ) (e : Entry) → entry_at h place ≡ Some e → Contains (opened_numbers l) e.caller
opened_listed name h l lawful o all place e is =
    let x = caller_opened_in h lawful place e is in
    let test : in_region name OPENINGS x.1 ≡ true = ap (λ (step : Step). is_mine (is_in name.widths name.data_regions OPENINGS) step || (is_open step && nat_eq OPENINGS OPENINGS)) x.3 in
    let has : Contains o.log (placed x.0 x.1) = subst (λ (ps : List Placed). Contains ps (placed x.0 x.1)) all (picked_has (in_region name OPENINGS) h x.0 x.1 x.2 test) in
    subst (λ (ls : List Log). Contains (opened_by ls) e.caller) (sym o.licence) (subst (Contains (map (λ (p : Placed). p.entry.caller) o.log)) x.4 (in_map (λ (p : Placed). p.entry.caller) o.log (placed x.0 x.1) has))

-- a lawful history fits the pass, all who opened are listed, and the regions are all, with their parts of the store after it
pub record IsOpened (name : Named) (opened : List ℕ) (v : View) (rs : List Region) : Type 0 where
  pub history : History
  pub over : IsOver name history
  pub fits : seen.Fits (seen_of v) history
  pub own : (place : ℕ) (e : Entry) → IsOwn (seen_of v) e.caller → entry_at history place ≡ Some e → Saw (seen_of v) place e
  pub mine : (caller : ℕ) → IsOwn (seen_of v) caller → (entry_at history caller ≡ Some (opening caller)) × Contains opened caller
  pub callers : (place : ℕ) (e : Entry) → entry_at history place ≡ Some e → Contains opened e.caller
  pub complete : AreComplete name.widths name.data_regions rs
  pub parts : ArePartsFrom name.widths name.data_regions (store_after history) 0 rs

pub opened_all : (name : Named) (numbers : List ℕ) (v l t u w : View) (before now : List Region) (n : ℕ) → 1 ≤ name.data_regions → name.data_regions ≤ 16 → IsCaller name v → IsOpener name l → opened_numbers l ≡ numbers → t ≡ met v l
    → Closed name 0 25 t before u now → before ≡ [] → w ≡ learned u n → u.length ≤ n → Lives w → IsOpened name numbers v now
opened_all name numbers v l t u w before now n least most c o numbers_are t_is gone none is le live =
    let sub_t : Sub t u = subst (Sub t) (sym gone.took_them) (sub_took t gone.licences) in
    let sub_v : Sub v u = sub_trans v t u (subst (Sub v) (sym t_is) (sub_met v l)) sub_t in
    let sub : Sub u w = subst (Sub u) (sym is) (sub_learned u n le) in
    let sub_l : Sub l w = sub_trans l t w (subst (Sub l) (sym t_is) (sub_other name v l c.named o.named)) (sub_trans t u w sub_t sub) in
    let whole : Sub v w = sub_trans v u w sub_v sub in
    let same : name ≡ live.name = live.fits.named name (sub.named name (sub_v.named name c.named)) in
    let over : IsOver name live.history = subst (λ m. IsOver m live.history) (sym same) live.over in
    let f : Fits name live.history w = subst (λ m. Fits m live.history w) (sym same) live.fits in
    let listed : (place : ℕ) (e : Entry) → entry_at live.history place ≡ Some e → Contains numbers e.caller =
    subst (λ (ns : List ℕ). (place : ℕ) (e : Entry) → entry_at live.history place ≡ Some e → Contains ns e.caller) numbers_are
    (opened_listed name live.history l over.lawful o (f.regions OPENINGS o.log (sub_l.licences OPENINGS o.log (opener_log name l o)))) in
    let regions : now ≡ gone.regions = gone.added ∙ ap (λ xs. xs ++ gone.regions) none in
    let parts : ArePartsFrom name.widths name.data_regions (store_after live.history) 0 gone.regions = parts_of name live.history 0 gone.regions gone.licences t w over f (subst (λ (x : View). Sub x w) gone.took_them sub) (subst (λ k. AreReplays name k gone.regions gone.licences) (let z : min 0 (region_count name) ≡ 0 = omega arith in z) gone.replays) in
    record {
      history = live.history;
      over = over;
      fits = fits_seen name live.history v c.first c.others c.callers c.named over (fits_sub name live.history v w whole c.live f);
      own = λ place e own at.
          let x = own_in v.callers c.first c.others c.callers e.caller own in
          let g = f.callers e.caller x.0 (whole.callers e.caller x.0 x.1) in
          own_seen v c.live e.caller x.0 x.1 (placed place e) (subst (λ (ps : List Placed). Contains ps (placed place e)) g.all (picked_has (by_caller e.caller) live.history place e at (nat_eq-refl e.caller)));
      mine = λ caller own.
          let x = own_in v.callers c.first c.others c.callers caller own in
          let first = (f.callers caller x.0 (whole.callers caller x.0 x.1)).opened in
          (first, listed caller (opening caller) first);
      callers = listed;
      complete = subst (AreComplete name.widths name.data_regions) (sym regions) (record { least = least; most = most; all = let a = gone.count in omega (arith, a, most); in_order = in_order name.widths name.data_regions (store_after live.history) 0 gone.regions (after_widths name live.history over) parts });
      parts = subst (ArePartsFrom name.widths name.data_regions (store_after live.history) 0) (sym regions) parts;
    }

pub ends : (name : Named) (numbers : List ℕ) (v : View) (rs : List Region) (d : DividedStore) → IsOpened name numbers v rs → d.data_regions ≡ name.data_regions → d.content.widths ≡ name.widths → HaveParts d.data_regions rs d.content → EndsAt name numbers (seen_of v) d
ends name numbers v rs d o same widths have = record {
  history = o.history;
  lawful = o.over.lawful;
  base_is = o.over.base;
  fits = o.fits;
  own = o.own;
  mine = o.mine;
  callers = o.callers;
  regions_are = same;
  store_is = parts_tell_store name.widths name.data_regions d.content (store_after o.history) o.complete.least (widths ∙ sym (after_widths name o.history o.over)) (λ k lt.
      sym (subst (λ w. part_at w (map cells_in rs) k ≡ part (is_in w name.data_regions k) d.content) widths (subst (λ D. HaveParts D rs d.content) same have k lt))
      ∙ part_is name.widths name.data_regions (store_after o.history) 0 rs k o.parts (let all = o.complete.all in omega (arith, all, lt))
      ∙ (let same : 0 + k ≡ k = omega arith in ap (λ n. part (is_in name.widths name.data_regions n) (store_after o.history)) same));
}
