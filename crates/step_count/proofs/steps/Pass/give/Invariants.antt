use Rattle.step_count.proofs.steps.Pass.give.Given as goal

abbrev pub ghosts-give_chosen : goal.ghosts-give_chosen
ghosts-give_chosen a = record { region = a.region }
