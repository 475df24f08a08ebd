use Rattle.std.proofs.Common.{ℕ, List, ◌++◌, subst}
use Rattle.std.specs.Io.KnownBytes.{Appends}
use Rattle.cell_model.specs.Counts.{lines_of}
use Rattle.cell_listing.specs.Grammar.{cells_text}
use Rattle.listing_print.specs.GivenTexts.{GaveFront, GaveUpTo}
use Rattle.listing_print.proofs.GivenCells.{on_err}
use Rattle.listing_print.proofs.Giving.{all_given, front_on}
use Rattle.listing_print.proofs.store_walk.give_body.Goals as goal

pub returns-in_err-walk_body-clause-err : goal.returns-in_err-walk_body-clause-err
returns-in_err-walk_body-clause-err g c =
    let k = g.K.Sink in
    on_err c.from_residual.result _ (subst (λ (xs : List ℕ). GaveFront (k.held c.args.sink.now) (k.held c.walk_body.new.sink) (xs ++ cells_text (lines_of (g.B.Body.content c.args.body.now)))) c.make-texts.ensures c.in_err-walk_body.ensures.err)

pub returns-in_err-give_text-clause-err : goal.returns-in_err-give_text-clause-err
returns-in_err-give_text-clause-err g c =
    let k = g.K.Sink in
    let all = cells_text (lines_of (g.B.Body.content c.args.body.now)) in
    let taken : GaveUpTo (k.held c.args.sink.now) (k.held c.walk_body.new.sink) all c.walk_body.new.taker.text.items =
    subst (λ (xs : List ℕ). GaveUpTo (k.held c.args.sink.now) (k.held c.walk_body.new.sink) (xs ++ all) c.walk_body.new.taker.text.items) c.make-texts.ensures c.in_ok-walk_body.ensures.ok in
    let front = subst (λ (text : List ℕ). GaveFront (k.held c.walk_body.new.sink) (k.held c.give_text.new.sink) text) c.deref.ensures.value c.in_err-give_text.ensures.err in
    on_err c.from_residual-in_err-give_text.result _ (front_on (k.held c.args.sink.now) (k.held c.walk_body.new.sink) (k.held c.give_text.new.sink) all c.walk_body.new.taker.text.items taken front)

pub returns-clause-ok : goal.returns-clause-ok
returns-clause-ok g c =
    let k = g.K.Sink in
    let all = cells_text (lines_of (g.B.Body.content c.args.body.now)) in
    let taken : GaveUpTo (k.held c.args.sink.now) (k.held c.walk_body.new.sink) all c.walk_body.new.taker.text.items =
    subst (λ (xs : List ℕ). GaveUpTo (k.held c.args.sink.now) (k.held c.walk_body.new.sink) (xs ++ all) c.walk_body.new.taker.text.items) c.make-texts.ensures c.in_ok-walk_body.ensures.ok in
    let rest = subst (λ (text : List ℕ). Appends (k.held c.walk_body.new.sink) (k.held c.give_text.new.sink) text) c.deref.ensures.value c.in_ok-give_text.ensures.ok in
    all_given (k.held c.args.sink.now) (k.held c.walk_body.new.sink) (k.held c.give_text.new.sink) all c.walk_body.new.taker.text.items taken rest
