use Rattle.lapi_turn.proofs.turn.Turn.split.Given as goal

abbrev pub ghosts-split_place : goal.ghosts-split_place
ghosts-split_place g a = record { mask = a.mask }
