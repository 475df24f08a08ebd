-- A step that was made on a body, and then stamped.
use Rattle.std.proofs.Common.{◌≡◌, ◌≢◌, ℕ, ◌^◌, ◌<◌, true, false, List, refl, sym, ap, subst, ◌∙◌}
use Rattle.std.specs.Prelude.{None}
use Rattle.tsd_base.specs.declared.kinds.Kind.{Kind}
use Rattle.cell_model.specs.declared.row.Row.{Row}
use Rattle.cell_model.specs.declared.answers.Bumped.{Bumped}
use Rattle.cell_model.specs.declared.answers.Bumped.TheVariants.{Given, Full}
use Rattle.cell_model.specs.declared.answers.Claimed.{Claimed}
use Rattle.cell_model.specs.declared.answers.Claimed.TheVariants.{Done, Held}
use Rattle.cell_model.specs.declared.events.Step.{Step}
use Rattle.cell_model.specs.declared.events.Step.TheVariants.{Bump, Claim, PutMerged}
use Rattle.cell_model.specs.declared.events.Reply.{Reply}
use Rattle.cell_model.specs.declared.events.Reply.TheVariants.{BumpReply, ClaimReply}
use Rattle.cell_model.specs.Store.{Store, content_at, value_at, stamped}
use Rattle.cell_model.specs.Machine.{after, counter_row, kind_qual, bump_reply, claim_reply}
use Rattle.region_locks.specs.StepOrders.{Applied, gave, did}
use Rattle.region_locks.proofs.Lower.{bump_stamped, bump_full, bump_there, claim_stamped, claim_held, claim_there, put_stamped, put_there}

gave_one : (b : Bumped) → gave (BumpReply b) ≡ true → (id : ℕ) × (b ≡ Given id)
gave_one (Given id) e = (id, refl)
gave_one Full e = cc

gave_none : (b : Bumped) → gave (BumpReply b) ≡ false → b ≡ Full
gave_none (Given id) e = cc
gave_none Full e = refl

did_so : (c : Claimed) → did (ClaimReply c) ≡ true → Done ≡ c
did_so Done e = refl
did_so (Held value) e = cc

did_not : (c : Claimed) → did (ClaimReply c) ≡ false → (value : List ℕ) × (Held value ≡ c)
did_not Done e = cc
did_not (Held value) e = (value, refl)

given_by : (s content : Store) (reply : Reply) (kind : Kind) → gave reply ≡ true → Applied s (Bump kind) reply content → (id : ℕ) × (bump_reply s kind ≡ Given id)
given_by s content reply kind g a = gave_one (bump_reply s kind) (ap gave (sym a.reply_is) ∙ g)

pub bump_is_there : (s content : Store) (step : Step) (reply : Reply) (kind : Kind) → step ≡ Bump kind → gave reply ≡ true → Applied s step reply content → content_at content counter_row (kind_qual kind) ≢ None
bump_is_there s content step reply kind is g applied =
    let a = subst (λ x. Applied s x reply content) is applied in
    let w = given_by s content reply kind g a in
    subst (λ (c : Store). content_at c counter_row (kind_qual kind) ≢ None) (sym a.content_is) (bump_there s kind w.0 w.1)

pub bump_done : (s content new : Store) (step : Step) (reply : Reply) (kind : Kind) (place : ℕ) → place < 2 ^ 64 → step ≡ Bump kind → gave reply ≡ true → Applied s step reply content
    → new ≡ stamped content counter_row (kind_qual kind) place → new ≡ after s place step
bump_done s content new step reply kind place lt is g applied made =
    let a = subst (λ x. Applied s x reply content) is applied in
    let w = given_by s content reply kind g a in
    made ∙ ap (λ c. stamped c counter_row (kind_qual kind) place) a.content_is ∙ bump_stamped s kind place w.0 lt w.1 ∙ ap (after s place) (sym is)

pub bump_not : (s content : Store) (step : Step) (reply : Reply) (kind : Kind) (place : ℕ) → step ≡ Bump kind → gave reply ≡ false → Applied s step reply content → content ≡ after s place step
bump_not s content step reply kind place is g applied =
    let a = subst (λ x. Applied s x reply content) is applied in
    a.content_is ∙ bump_full s kind place (gave_none (bump_reply s kind) (ap gave (sym a.reply_is) ∙ g)) ∙ ap (after s place) (sym is)

pub claim_is_there : (s content : Store) (step : Step) (reply : Reply) (row : Row) (qual value : List ℕ) → step ≡ Claim row qual value → did reply ≡ true → Applied s step reply content → content_at content row qual ≢ None
claim_is_there s content step reply row qual value is d applied =
    let a = subst (λ x. Applied s x reply content) is applied in
    subst (λ (x : Store). content_at x row qual ≢ None) (sym a.content_is) (claim_there s row qual value (did_so _ (ap did (sym a.reply_is) ∙ d)))

pub claim_done : (s content new : Store) (step : Step) (reply : Reply) (row : Row) (qual value : List ℕ) (place : ℕ) → place < 2 ^ 64 → step ≡ Claim row qual value → did reply ≡ true → Applied s step reply content
    → new ≡ stamped content row qual place → new ≡ after s place step
claim_done s content new step reply row qual value place lt is d applied made =
    let a = subst (λ x. Applied s x reply content) is applied in
    made ∙ ap (λ x. stamped x row qual place) a.content_is ∙ claim_stamped s row qual value place lt (did_so _ (ap did (sym a.reply_is) ∙ d)) ∙ ap (after s place) (sym is)

pub claim_not : (s content : Store) (step : Step) (reply : Reply) (row : Row) (qual value : List ℕ) (place : ℕ) → step ≡ Claim row qual value → did reply ≡ false → Applied s step reply content → content ≡ after s place step
claim_not s content step reply row qual value place is d applied =
    let a = subst (λ x. Applied s x reply content) is applied in
    let w = did_not (claim_reply (value_at s row qual)) (ap did (sym a.reply_is) ∙ d) in
    a.content_is ∙ claim_held s row qual value w.0 place w.1 ∙ ap (after s place) (sym is)

-- a put of a point changes the store as that of a merged cell
pub put_is_there : (s content : Store) (step : Step) (reply : Reply) (row : Row) (qual value : List ℕ) → ((place : ℕ) → after s place step ≡ after s place (PutMerged row qual value)) → Applied s step reply content → content_at content row qual ≢ None
put_is_there s content step reply row qual value is a = subst (λ (x : Store). content_at x row qual ≢ None) (sym (a.content_is ∙ is 0)) (put_there s row qual value)

pub put_done : (s content new : Store) (step : Step) (reply : Reply) (row : Row) (qual value : List ℕ) (place : ℕ) → place < 2 ^ 64 → ((place : ℕ) → after s place step ≡ after s place (PutMerged row qual value)) → Applied s step reply content
    → new ≡ stamped content row qual place → new ≡ after s place step
put_done s content new step reply row qual value place lt is a made =
    made ∙ ap (λ x. stamped x row qual place) (a.content_is ∙ is 0) ∙ put_stamped s row qual value place lt ∙ sym (is place)
