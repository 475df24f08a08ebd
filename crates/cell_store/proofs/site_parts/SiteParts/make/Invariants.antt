use Rattle.cell_store.proofs.site_parts.SiteParts.make.Given as goal

abbrev pub ghosts-over : goal.ghosts-over
ghosts-over g a = record { store = a.regions.content }
