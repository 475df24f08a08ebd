-- A turn of the loops on the word: what the pass has is as before, but for the length.
use Rattle.std.proofs.Common.{◌≡◌, ℕ, ◌+◌, ◌≤◌, [], sym, ap, ◌∙◌, subst, arith}
use Rattle.list_lemmas.proofs.ListMembers.{not_in}
use Rattle.cell_model.specs.declared.events.Entry.{Entry}
use Rattle.step_count.specs.declared.view.View.{View}
use Rattle.step_count.specs.ViewSteps.{Seated, Lives, learned, added, opened, callers_alone, MayAdd, HasLicence}
use Rattle.step_count.proofs.FittingHistories.{fits_shorter}

-- the view is as before, but that a greater length may have been learnt
abbrev pub HasWaited : View → View → Type 0
HasWaited v u = (u ≡ learned v u.length) × (v.length ≤ u.length)

pub has_learned : (v w : View) (n : ℕ) → w ≡ learned v n → v.length ≤ n → HasWaited v w
has_learned v w n is up = (is ∙ ap (λ (x : View). learned v x.length) (sym is), (let long = ap (λ (x : View). x.length) is in omega (arith, long, up)))

pub waits : (v u w : View) (n : ℕ) → HasWaited v u → w ≡ learned u n → u.length ≤ n → HasWaited v w
waits v u w n was is up = has_learned v w n (is ∙ ap (λ (x : View). learned x n) was.0) (let le = was.1 in omega (arith, le, up))

-- what may be added may still be then
pub may_later : (v u : View) (e : Entry) → HasWaited v u → MayAdd v e → MayAdd u e
may_later v u e was m = subst (λ (x : View). MayAdd x e) (sym was.0) (record {
  name = m.name;
  named = m.named;
  own = m.own;
  caller = m.caller;
  region = m.region;
  log = m.log;
  licence = m.licence;
  mine = m.mine;
  stays = m.stays;
  reply = m.reply;
  may = λ h over f. m.may h over (fits_shorter m.name h v u.length was.1 f);
})

-- the turn that adds the entry, and the one that opens
pub added_as : (v u w : View) (n old : ℕ) (e : Entry) → HasWaited v u → w ≡ added u (n + 1) e → n ≡ old → w ≡ added v (old + 1) e
added_as v u w n old e was is hit = is ∙ ap (λ (x : View). added x (n + 1) e) was.0 ∙ ap (λ m. added v (m + 1) e) hit

pub opened_as : (v u w : View) (n : ℕ) → HasWaited v u → w ≡ opened u (n + 1) → w ≡ opened v (n + 1)
opened_as v u w n was is = is ∙ ap (λ (x : View). opened x (n + 1)) was.0

-- a licence that the view had it has still
pub licence_later : (number : ℕ) (v u : View) → HasWaited v u → HasLicence number v → HasLicence number u
licence_later number v u was has = subst (HasLicence number) (sym was.0) has

-- callers that left live as those did of whom they were
pub lives_departed : (v : View) (m : Seated) → m ≡ (callers_alone v, []) → Lives v → Lives m.0
lives_departed v m is l = subst Lives (sym (ap (λ (x : Seated). x.0) is)) (record {
  name = l.name;
  history = l.history;
  over = l.over;
  fits = record { named = l.fits.named; long = l.fits.long; seen = l.fits.seen; callers = l.fits.callers; regions = λ r log a. absurd (not_in (r, log) a) };
  within = l.within;
  whole = l.whole;
  once = l.once;
})
