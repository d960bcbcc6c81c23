-- `put_result` puts the two numbers of a result. Assumes nothing.
use Rattle.bound.specs.Lists.{put_result}
use Rattle.bound.proofs.Lists.{second_place_there}
use Rattle.bound.proofs.judge.put_result.Goals as goal
use Rattle.bound.proofs.judge.put_result.Goals.{in-Unreached, in-Bound, in-NoBound}

pub bounds-results-k-2 : goal.bounds-results-k-2
bounds-results-k-2 c = search second_place_there

pub returns : goal.returns
unfolding put_result
returns c = elim c.match-res.branch [ in-Unreached w ↦ rw (w.in-Unreached.is, w.word-is) | in-Bound w ↦ rw (w.in-Bound.is, w.word-is) | in-NoBound w ↦ rw (w.in-NoBound.is, w.word-is) ]
