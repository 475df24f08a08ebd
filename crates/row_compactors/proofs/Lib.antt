mod NothingNew
mod TakenPlaces
