-- One name for all that computes when texts are read, judged and run, and a history is folded over calls: unfolding it unfolds these.
use mathlib.Core.Bool.{Bool, true}
use Rattle.lists.specs.Numbers.{every, any, lowest, tabulate, all, put}
use Rattle.lists.specs.Chosen.{only_if, chosen}
use Rattle.lists.specs.Joins.{both, either}
use Rattle.mask.specs.Mask.{has, without, plus}
use Rattle.plan.specs.Plan.{at, assertion_at, successors, masks, template_fits, creates}
use Rattle.route.specs.Search.{if_so, including, collect, only, meet, enter_all, is_open, enter, reach, ways, targets, arrives, detours, crosses, branches_cross, fork_crosses, leads, any_in, shares_over, splits_over, shares_tag, splits_tag}
use Rattle.scan.specs.Bytes.{before, starts_with, same, stands_in}
use Rattle.field.specs.Fields.{and_then, digit, digits, decimal, number, template_number, mask, name_byte, name, pair, form, risk, kind, misplaced, declass}
use Rattle.text.specs.Reading.{after_key, settle, line, entry, entries, plan, assertion, assertions, policy, closed, checked, if_complete, read_plan, read_policy}
use Rattle.rules.specs.Judge.{or_else, first_below, first_in, lowest_offender, creator, next_creator, check11, edge_rules, step_rules, check_edge, check_edges, serves, check_prot, check_assertion, check_assertions, judge_read, after_reading, judge, wearable}
use Rattle.machine.specs.Machine.{tag, refuse_if, if_done, plan_fits, process_fits, rising, population_fits, well_formed, find, remove, branch_fits, children, may_become, child, spawn, step_answer, stepped, settled, step_by, agree, passes, send_by, movable, label_with, move_answer, relabel, moved, move_by, answer_to, run, root, start}
use Rattle.promise.specs.History.{nearest, inherited, learnt, births, happened, after, after_all, opening, world_after}
use Rattle.cases.specs.Base.{text, base_plan, base_policy, key_of, changed_after}
use Rattle.cases.specs.Histories.{plan_in, assertion_in, world_for, those, reply}

unfoldable pub computing : Bool
unfolding every any lowest tabulate all put only_if chosen both either has without plus at assertion_at successors masks template_fits creates if_so including collect only meet enter_all is_open enter reach ways targets arrives detours crosses branches_cross fork_crosses leads any_in shares_over splits_over shares_tag splits_tag before starts_with same stands_in and_then digit digits decimal number template_number mask name_byte name pair form risk kind misplaced declass after_key settle line entry entries plan assertion assertions policy closed checked if_complete read_plan read_policy or_else first_below first_in lowest_offender creator next_creator check11 edge_rules step_rules check_edge check_edges serves check_prot check_assertion check_assertions judge_read after_reading judge wearable tag refuse_if if_done plan_fits process_fits rising population_fits well_formed find remove branch_fits children may_become child spawn step_answer stepped settled step_by agree passes send_by movable label_with move_answer relabel moved move_by answer_to run root start nearest inherited learnt births happened after after_all opening world_after text base_plan base_policy key_of changed_after plan_in assertion_in world_for those reply
computing = true
