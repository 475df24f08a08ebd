-- Beginnings of a history.
use Rattle.cell_model.specs.declared.events.Entry.{Entry}
use Rattle.cell_model.specs.History.{History}
use Rattle.cell_model.specs.History.History.{Then}

-- h0 is a beginning of h
pub data Begins : History → History → Type 0 where
  whole : {h : History} → Begins h h
  longer : {h0 h : History} {e : Entry} → Begins h0 h → Begins h0 (Then h e)
