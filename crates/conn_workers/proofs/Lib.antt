mod ServedTurns
mod WorkerLists
