mod JobTold
