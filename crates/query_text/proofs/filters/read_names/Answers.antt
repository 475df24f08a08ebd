use Rattle.std.proofs.Common.{◌∙◌, ◌<◌, sym, ap, subst, [], ◌∷◌, ◌++◌, length, Some, IfSome}
use Rattle.std.specs.Option.{option_map}
use Rattle.query_text.proofs.Parts.{names_none, names_push, names_all, names_not, is_a_name, is_no_name, parts_last, parts_more, first_part}
use Rattle.query_text.proofs.filters.read_names.Goals as goal

pub loop-names-init : goal.loop-names-init
loop-names-init c = names_none c.args.text.now c.new-names.result.items c.new-names.ensures.items

pub returns-in_default : goal.returns-in_default
returns-in_default c =
    let first = first_part 124 c.loop-names.rest.now c.cut.result.0.now c.cut.ensures.before in
    names_not c.args.text.now c.loop-names.names.items c.loop-names.rest.now c.cut.result.0.now first.0 c.loop-names.invariant (is_no_name c.cut.result.0.now (sym c.in_default.is ∙ c.in_ok-name.ensures {u = tt})) first.1

pub loop-names-smaller : goal.loop-names-smaller
loop-names-smaller c = subst (λ rest. IfSome rest (λ r. length r.now < length c.loop-names.rest.now)) c.in-Some-behind.is c.cut.ensures.shorter

pub loop-names-preserved : goal.loop-names-preserved
loop-names-preserved c =
    let name = is_a_name c.cut.result.0.now c.in-Some.name (sym c.in-Some.is ∙ c.in_ok-name.ensures {u = tt}) in
    let parts = parts_more 124 c.loop-names.rest.now c.cut.result.0.now c.in-Some-behind.more.now (option_map (λ r. r.now) c.cut.result.1) c.cut.ensures.before c.cut.ensures.behind (ap (option_map (λ r. r.now)) c.in-Some-behind.is) in
    names_push c.args.text.now c.loop-names.names.items c.loop-names.rest.now c.cut.result.0.now c.in-Some-behind.more.now c.push.new.self.items c.loop-names.invariant name.0 parts
    ((c.in_ok-push.ensures {u = tt}).items ∙ ap (λ n. c.loop-names.names.items ++ n ∷ []) name.1)

pub returns-in-None : goal.returns-in-None
returns-in-None c =
    let name = is_a_name c.cut.result.0.now c.in-Some.name (sym c.in-Some.is ∙ c.in_ok-name.ensures {u = tt}) in
    let parts = parts_last 124 c.loop-names.rest.now c.cut.result.0.now (option_map (λ r. r.now) c.cut.result.1) c.cut.ensures.before c.cut.ensures.behind (ap (option_map (λ r. r.now)) c.in-None.is) in
    ap Some c.of.ensures ∙ names_all c.args.text.now c.loop-names.names.items c.loop-names.rest.now c.cut.result.0.now c.push.new.self.items c.loop-names.invariant name.0 parts
    ((c.in_ok-push.ensures {u = tt}).items ∙ ap (λ n. c.loop-names.names.items ++ n ∷ []) name.1)
