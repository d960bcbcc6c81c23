-- `put` meets its promise: there is room, or there is none. Assumes nothing.
use Rattle.basis.proofs.Inside.Tests.{tests}
use Rattle.page.specs.Pages.{put_one, said}
use Rattle.page.proofs.writing.put.Goals as goal

pub returns-then-at-text : goal.returns-then-at-text
unfolding said put_one
returns-then-at-text c = search tests

pub returns-else-at-text : goal.returns-else-at-text
unfolding said put_one
returns-else-at-text c = search tests
