-- What is known where a store is asked for a cell. Assumes nothing.
use Rattle.store.proofs.Room.{room, record_room}
use Rattle.store.proofs.Ways.{asks_store, asks_nocell, asks_cell, asks_numbers}

pub ruleset asked = (room, record_room, asks_store, asks_nocell, asks_cell, asks_numbers)
