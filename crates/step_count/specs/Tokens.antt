-- What a counter, a pass, a licence and a note are seen as: of which counter they are, and what they know.
use Rattle.atomic_table.specs.Seated.{TableId}
use Rattle.step_count.specs.declared.view.Named.{Named}
use Rattle.step_count.specs.declared.view.View.{View}
use Rattle.step_count.specs.declared.steps.Steps.{Steps}
use Rattle.step_count.specs.declared.steps.Pass.{Pass}
use Rattle.step_count.specs.declared.steps.Licence.{Licence}
use Rattle.step_count.specs.declared.steps.Note.{Note}
use Rattle.step_count.specs.FirstViews.{name_in}

-- which counter it is; tokens that are used together are of one
abbrev pub counter_of_steps : Steps → TableId
counter_of_steps steps = steps.opener.seat.table_id

abbrev pub counter_of_pass : Pass → TableId
counter_of_pass pass = pass.seat.table_id

abbrev pub counter_of_licence : Licence → TableId
counter_of_licence licence = licence.seat.table_id

abbrev pub counter_of_note : Note → TableId
counter_of_note note = note.seat.table_id

-- the store with which its history begins
abbrev pub name_of_steps : Steps → Named
name_of_steps steps = name_in steps.opener.seat.me.0.named

-- what each knows
abbrev pub view_of_steps : Steps → View
view_of_steps steps = steps.opener.seat.me.0

abbrev pub view_of_pass : Pass → View
view_of_pass pass = pass.seat.me.0

abbrev pub view_of_licence : Licence → View
view_of_licence licence = licence.seat.me.0

abbrev pub view_of_note : Note → View
view_of_note note = note.seat.me.0
