use Rattle.link_workers.proofs.link_service.serve_links.Given as goal

abbrev pub ghosts-serve_counted-P-Ledger : goal.ghosts-serve_counted-P-Ledger
ghosts-serve_counted-P-Ledger g a = record { name = a.puts.name; parts = a.puts.parts }

abbrev pub ghosts-serve_counted-T-Ledger : goal.ghosts-serve_counted-T-Ledger
ghosts-serve_counted-T-Ledger g a = record { name = a.takes.name; parts = a.takes.parts }
