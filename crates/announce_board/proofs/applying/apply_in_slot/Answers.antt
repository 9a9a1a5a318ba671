use Rattle.std.proofs.Common.{sym, ◌∙◌, ◌∷◌, ap, refl}
use Rattle.atomic_table.specs.Table.{rest}
use Rattle.pq_types.specs.Operation.{Asked}
use Rattle.desk_core.specs.Pen.{book_in_hand, limits_in_hand}
use Rattle.announce_board.specs.Slots.{with_book}
use Rattle.announce_board.specs.Steps.{pen_at}
use Rattle.announce_board.proofs.ItemSteps.{wider_request}
use Rattle.announce_board.proofs.Lent.{value_lent, serial_above, lent_owes, lent_told}
use Rattle.announce_board.proofs.ToldLemmas.{own_answer_fits, own_behind, own_barred}
use Rattle.announce_board.proofs.applying.apply_in_slot.Goals as goal

pub slot_mut-slot-requires : goal.slot_mut-slot-requires
slot_mut-slot-requires g c =
    let there = with_book (book_in_hand (pen_at c.args.seat.now.me)) in
    (c.requires.here, (there, c.requires.lent.slot ∙ ap (λ l. (0, there) ∷ rest l) (sym c.requires.lent.slot)))

pub carry_out-answer-requires : goal.carry_out-answer-requires
carry_out-answer-requires g c =
    let m = c.args.seat.now.me in
    record {
      there = (book_in_hand (pen_at m), value_lent _ c.args.place c.args.posts m c.slot_mut-slot.result.now c.requires.lent c.slot_mut-slot.ensures.value, serial_above _ c.args.place c.args.posts m c.requires.lent c.requires.few);
    }

pub load-requires : goal.load-requires
load-requires g c = (
  c.requires.here,
  c.requires.lent.lock,
  lent_owes _ _ c.law_steps_are_allowed.ensures.apply _ _ _ _ _ _ c.args.place c.args.posts c.args.seat.now.me _ c.args.request c.carry_out-answer.result c.slot_mut-slot.result.now c.carry_out-answer.new.self c.requires.lent
      c.requires.few (wider_request g.P.Part.wide c.args.request c.law_request_is_proper.ensures) c.slot_mut-slot.ensures.value c.carry_out-answer.ensures.carries refl,
)

pub returns : goal.returns
returns g c =
    let m = c.args.seat.now.me in
    let told = lent_told g.P.Part.wide _ c.args.place c.args.posts m _ c.load.new.seat.me c.load.result c.args.request c.carry_out-answer.result c.slot_mut-slot.result.now c.carry_out-answer.new.self c.requires.lent
    c.slot_mut-slot.ensures.value c.carry_out-answer.ensures.carries refl c.load.ensures.2 in
    record {
      table = c.load.ensures.0;
      lent = told.lent;
      may = told.may;
      answers = own_answer_fits g.P.Part.wide (limits_in_hand (pen_at m)) (pen_at m).hand (Asked c.args.request) c.carry_out-answer.result told.may c.carry_out-answer.ensures.carries.proper;
      behind = own_behind c.law_calls_are_lines.ensures.lines (pen_at m) (Asked c.args.request) c.carry_out-answer.result told.knows c.requires.lent.idle told.may;
      barred = own_barred (pen_at m) (Asked c.args.request) c.carry_out-answer.result told.knows told.may;
      memory = λ all. c.carry_out-answer.ensures.memory (book_in_hand (pen_at m)) (value_lent _ c.args.place c.args.posts m c.slot_mut-slot.result.now c.requires.lent c.slot_mut-slot.ensures.value) all;
      spare = λ all. c.carry_out-answer.ensures.spare (book_in_hand (pen_at m)) (value_lent _ c.args.place c.args.posts m c.slot_mut-slot.result.now c.requires.lent c.slot_mut-slot.ensures.value) all;
      after = (told.now, told.after_is);
    }
