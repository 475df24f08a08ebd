use Rattle.test_calls.proofs.queue_tests.each_number_is_taken_once.Given as goal

abbrev pub ghosts-both_sums-P-Ledger : goal.ghosts-both_sums-P-Ledger
ghosts-both_sums-P-Ledger g a = record { name = a.puts.name; parts = a.puts.parts }

abbrev pub ghosts-both_sums-T-Ledger : goal.ghosts-both_sums-T-Ledger
ghosts-both_sums-T-Ledger g a = record { name = a.takes.name; parts = a.takes.parts }
