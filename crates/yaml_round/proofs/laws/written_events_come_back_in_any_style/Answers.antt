-- Each event comes back.
use Rattle.yaml_round.proofs.AnyStyle.{renders}
use Rattle.yaml_round.proofs.laws.written_events_come_back_in_any_style.Goals as goal

pub returns : goal.returns
returns c = λ choose source events as_plain as_quoted as_block.
    renders choose source as_plain as_quoted as_block 0 events
