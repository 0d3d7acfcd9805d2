use Rattle.k_plays.proofs.Points.{point_fits, point_played}
use Rattle.k_plays.proofs.laws.every_point_plays_the_script.Goals as goal

pub returns-clause-played : goal.returns-clause-played
returns-clause-played c = point_played

pub returns-clause-room : goal.returns-clause-room
returns-clause-room c = point_fits
