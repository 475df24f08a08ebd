-- Commands with one more rule, or with one more command below them.
use Rattle.std.proofs.Common.{◌≡◌, ap, ◌∙◌}
use Rattle.std.specs.Prelude.{IfOk, Result, Ok, Err}
use Rattle.clap.specs.Walk.{Rule}
use Rattle.clap.specs.Simple.{App, Shape, app_of, shape_of, with_rule, with_subcommand}
use Rattle.clap.specs.declared.builder.command.Command.{Command}

-- the same commands with the same rule
pub with_rules : {a a2 : App} {r r2 : Rule} → a ≡ a2 → r ≡ r2 → with_rule a r ≡ with_rule a2 r2
with_rules {a2 = a2} {r = r} same rule = ap (λ (a : App). with_rule a r) same ∙ ap (with_rule a2) rule

-- and with the same command below
pub with_commands : {a a2 : App} {s s2 : Shape} → a ≡ a2 → s ≡ s2 → with_subcommand a s ≡ with_subcommand a2 s2
with_commands {a2 = a2} {s = s} same shape = ap (λ (a : App). with_subcommand a s) same ∙ ap (with_subcommand a2) shape

-- what was made is this, and so is its shape
pub made_as : {E : Type 0} (r : Result Command E) {a b : App} → a ≡ b → IfOk r (λ made. app_of made ≡ a) → IfOk r (λ made. app_of made ≡ b)
made_as (Ok made) same is = is ∙ same
made_as (Err e) same is = tt

pub shaped_as : {E : Type 0} (r : Result Command E) {a b : App} → a ≡ b → IfOk r (λ made. app_of made ≡ a) → IfOk r (λ made. shape_of made ≡ b.top)
shaped_as (Ok made) same is = ap (λ (x : App). x.top) (is ∙ same)
shaped_as (Err e) same is = tt
