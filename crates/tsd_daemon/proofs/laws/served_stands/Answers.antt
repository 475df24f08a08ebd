use Rattle.tsd_daemon.proofs.laws.served_stands.Goals as goal

pub returns : goal.returns
returns c = λ config old new later input output times result s extends h l f. s.served h l (extends.fits h f)
