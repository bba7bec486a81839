use Rattle.std.proofs.Common.{rules, arith, ◌<◌, ◌^◌}
use Rattle.prodash_script.specs.Reading.{cut_at_space}
use Rattle.prodash_script.proofs.WrittenLines.{read_back}
use Rattle.prodash_script.proofs.writing.to_line.Goals as goal

pub returns-else-ne-clause-read : goal.returns-else-ne-clause-read
returns-else-ne-clause-read c =
    let parent : c.in-AddChild.parent < 2 ^ 64 = omega arith in
    read_back _ c.with_line.result (search rules) (search rules)

pub returns-in-SetName-clause-read : goal.returns-in-SetName-clause-read
returns-in-SetName-clause-read c =
    let item : c.in-SetName.item < 2 ^ 64 = omega arith in
    read_back _ c.with_line-in-SetName.result (search rules) (search rules)

pub returns-in-Message-clause-read : goal.returns-in-Message-clause-read
returns-in-Message-clause-read c =
    let item : c.in-Message.item < 2 ^ 64 = omega arith in
    let at : c.in-Message.at < 2 ^ 64 = omega arith in
    read_back _ c.message.result (search rules) (search rules)

pub returns-in-Init-clause-read : goal.returns-in-Init-clause-read
returns-in-Init-clause-read c =
    let item : c.in-Init.item < 2 ^ 64 = omega arith in
    read_back _ c.init.result (search rules) (search rules)

pub returns-in_ok-max-in-SetMax-clause-read : goal.returns-in_ok-max-in-SetMax-clause-read
returns-in_ok-max-in-SetMax-clause-read c =
    let item : c.in-SetMax.item < 2 ^ 64 = omega arith in
    read_back _ c.with_text.result (search rules) (search rules)

pub returns-in-Drop-clause-read : goal.returns-in-Drop-clause-read
returns-in-Drop-clause-read c =
    let item : c.in-Drop.item < 2 ^ 64 = omega arith in
    read_back _ c.with_number.result (search rules) (search rules)

pub returns-in-Set-clause-read : goal.returns-in-Set-clause-read
returns-in-Set-clause-read c =
    let item : c.in-Set.item < 2 ^ 64 = omega arith in
    let step : c.in-Set.step < 2 ^ 64 = omega arith in
    read_back _ c.with_numbers.result (search rules) (search rules)

pub returns-in-IncBy-clause-read : goal.returns-in-IncBy-clause-read
returns-in-IncBy-clause-read c =
    let item : c.in-IncBy.item < 2 ^ 64 = omega arith in
    let step : c.in-IncBy.step < 2 ^ 64 = omega arith in
    read_back _ c.with_numbers-in-IncBy.result (search rules) (search rules)

pub returns-else-is_some-clause-read : goal.returns-else-is_some-clause-read
returns-else-is_some-clause-read c =
    let item : c.in-Blocked.item < 2 ^ 64 = omega arith in
    read_back _ c.with_number-in-Blocked.result (search rules) (search rules)

pub returns-else-is_some-2-clause-read : goal.returns-else-is_some-2-clause-read
returns-else-is_some-2-clause-read c =
    let item : c.in-Halted.item < 2 ^ 64 = omega arith in
    read_back _ c.with_number-in-Halted.result (search rules) (search rules)

pub returns-in-Running-clause-read : goal.returns-in-Running-clause-read
returns-in-Running-clause-read c =
    let item : c.in-Running.item < 2 ^ 64 = omega arith in
    read_back _ c.with_number-in-Running.result (search rules) (search rules)

pub returns-after-show-clause-read : goal.returns-after-show-clause-read
returns-after-show-clause-read c =
    let at : c.in-Tick.at < 2 ^ 64 = omega arith in
    read_back _ c.with_number-in-Tick.result (search rules) (search rules)

pub returns-then-show-2-clause-read : goal.returns-then-show-2-clause-read
returns-then-show-2-clause-read c =
    let at : c.in-Resize.at < 2 ^ 64 = omega arith in
    let columns : c.in-Resize.columns < 2 ^ 16 = omega arith in
    let rows : c.in-Resize.rows < 2 ^ 16 = omega arith in
    read_back _ c.resize_line.result (search rules) (search rules)

pub returns-in-Quit-clause-read : goal.returns-in-Quit-clause-read
returns-in-Quit-clause-read c =
    let at : c.in-Quit.at < 2 ^ 64 = omega arith in
    read_back _ c.with_number-in-Quit.result (search rules) (search rules)

pub returns-in_ok-from_str-in-DropRoot-clause-read : goal.returns-in_ok-from_str-in-DropRoot-clause-read
unfolding cut_at_space
returns-in_ok-from_str-in-DropRoot-clause-read c = search rules
