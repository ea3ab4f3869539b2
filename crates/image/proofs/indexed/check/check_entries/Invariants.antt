use Rattle.std.proofs.Common.{◌≡◌, ◌+◌, ◌-◌, ◌*◌}
use Rattle.image.specs.Indexed.{first_entry, header, passed, row, entry}
use Rattle.image.proofs.indexed.check.check_entries.Given as goal

abbrev pub invariant-loop-block : goal.invariant-loop-block
invariant-loop-block l =
    let read = entry l.bytes (header l.reels l.blocks) in
    passed (row read 8 (first_entry l.reels) l.blocks) ≡ passed (row read 8 (first_entry l.reels + 8 * l.block) (l.blocks - l.block))
