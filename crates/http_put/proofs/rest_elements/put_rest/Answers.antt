use Rattle.std.proofs.Common.{◌≡◌, ◌∙◌, List, length, sym, subst, arith, rules}
use Rattle.std.proofs.lemmas.Result.{IfOk-weaker}
use Rattle.serde_json.specs.Data.{Data}
use Rattle.point_put.specs.Admissions.{admission}
use Rattle.http_put.specs.PutElements.{ElementsBegun, ElementsPut, texts_of}
use Rattle.http_put.proofs.JoinedRuns.{ended_all, memory_any, nothing_begun}
use Rattle.http_put.proofs.OneElement.{at_err}
use Rattle.http_put.proofs.rest_elements.put_rest.Goals as goal

pub elements_behind-rest-requires : goal.elements_behind-rest-requires
elements_behind-rest-requires g c = (c.requires.0, c.in_ok-value.ensures.ok c.requires.0 c.requires.1, (let count : c.len.result ≡ length c.args.outs.items = search rules in let enough = c.requires.2 in omega (arith, count, enough)))

pub returns-clause-ok : goal.returns-clause-ok
returns-clause-ok g c done rest list len =
    let count : c.len.result ≡ length c.args.outs.items = search rules in
    let same = c.elements_behind-rest.ensures done rest (c.in_ok-value.ensures.ok _ list) (len ∙ sym count) in
    IfOk-weaker c.joined.result _ _ (λ all is. record {
      more = c.in_ok-more.more.items;
      all = is;
      put = subst (λ (ds : List Data). ElementsPut (admission c.args.config.now c.args.rule.now.patterns) ds (g.R.Rows.seen c.args.names.now.rows) c.args.queue.now (texts_of c.in_ok-more.more.items) (g.R.Rows.seen c.put_elements.new.names.rows) c.put_elements.new.queue) same c.in_ok-more.ensures.ok;
    }) c.joined.ensures.ok

pub returns-clause-err : goal.returns-clause-err
returns-clause-err g c done rest list len =
    let count : c.len.result ≡ length c.args.outs.items = search rules in
    let same = c.elements_behind-rest.ensures done rest (c.in_ok-value.ensures.ok _ list) (len ∙ sym count) in
    at_err c.joined.result (ended_all (admission c.args.config.now c.args.rule.now.patterns) rest (g.R.Rows.seen c.args.names.now.rows) (g.R.Rows.seen c.put_elements.new.names.rows) c.args.queue.now c.put_elements.new.queue (texts_of c.in_ok-more.more.items) c.in_ok-more.ensures.since
    (subst (λ (ds : List Data). ElementsPut (admission c.args.config.now c.args.rule.now.patterns) ds (g.R.Rows.seen c.args.names.now.rows) c.args.queue.now (texts_of c.in_ok-more.more.items) (g.R.Rows.seen c.put_elements.new.names.rows) c.put_elements.new.queue) same c.in_ok-more.ensures.ok))

pub returns-clause-stops : goal.returns-clause-stops
returns-clause-stops g c = record { grows = c.in_ok-more.ensures.stops.grows; rose = memory_any (g.R.Rows.stops c.args.names.now.rows) (g.R.Rows.stops c.put_elements.new.names.rows) c.joined.result c.joined.ensures.err }

pub returns-in_err-value-clause-err : goal.returns-in_err-value-clause-err
returns-in_err-value-clause-err g c done rest list len = at_err c.from_residual.result (nothing_begun (admission c.args.config.now c.args.rule.now.patterns) rest (g.R.Rows.seen c.args.names.now.rows) c.args.queue.now)

pub returns-in_err-more-clause-err : goal.returns-in_err-more-clause-err
returns-in_err-more-clause-err g c done rest list len =
    let count : c.len.result ≡ length c.args.outs.items = search rules in
    let same = c.elements_behind-rest.ensures done rest (c.in_ok-value.ensures.ok _ list) (len ∙ sym count) in
    at_err c.from_residual-in_err-more.result
    (subst (λ (ds : List Data). ElementsBegun (admission c.args.config.now c.args.rule.now.patterns) ds (g.R.Rows.seen c.args.names.now.rows) c.args.queue.now (g.R.Rows.seen c.put_elements.new.names.rows) c.put_elements.new.queue) same c.in_err-more.ensures.err)
