-- The table file's number is the refusal, or 33 and 34 are asked of its table.
use Rattle.std.proofs.Common.{arith}
use Rattle.std.proofs.lemmas.Grind.{common_steps}
use Rattle.plant.specs.Ask.{◌then◌}
use Rattle.plant.proofs.Refusing.{number_suc}
use Rattle.interface.specs.Hosts.{certificate_file_questions}
use Rattle.interface.proofs.Checking.{table_refused, table_yes, table_front, table_sized, table_valid}
use Rattle.host.proofs.Held.{fits}
use Rattle.host.proofs.check_table_in.Goals as goal

pub returns-in_err-size : goal.returns-in_err-size
unfolding certificate_file_questions ◌then◌
returns-in_err-size g c =
    let refused = (table_refused _ _ _ (fits _ _ c.requires.1) c.in_err-size.ensures).0 in
    grind (arith, common_steps, number_suc, refused)

pub shared_whole_as_front-certificate_questions : goal.shared_whole_as_front-certificate_questions
shared_whole_as_front-certificate_questions g c =
    let there = (table_front _ _ _ (fits _ _ c.requires.1) c.in_ok-size.ensures).there in
    (omega (arith, there), omega arith)

pub certificate_questions-requires : goal.certificate_questions-requires
certificate_questions-requires g c =
    let room = fits _ _ c.requires.1 in
    let read = c.in_ok-size.ensures in
    (record { passes = c.requires.0; size = table_sized _ _ _ room read }, table_valid _ _ _ room read)

pub returns : goal.returns
unfolding certificate_file_questions ◌then◌
returns g c =
    let room = fits _ _ c.requires.1 in
    let read = c.in_ok-size.ensures in
    let yes = table_yes _ _ _ room read in
    let are = (table_front _ _ _ room read).are in
    grind (arith, common_steps, yes, are)
