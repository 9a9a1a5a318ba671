use Rattle.std.proofs.Common.{◌≡◌, ◌<◌, ℕ, List, [], ◌∷◌, set, slice_get, Some, Option, refl, length, rules, subst}
use Rattle.std.proofs.Math.ListN.{length-set}
use Rattle.queue_load.specs.JournalWriter.{GoesOn}
use Rattle.queue_load.specs.Load.{known_then}
use Rattle.queue_load.specs.declared.journal_writer.JournalWriter.{JournalWriter}
use Rattle.queue_load.specs.declared.worker.EndedWorker.{EndedWorker}
use Rattle.queue_load.proofs.Slicing.{come_after, first_of}
use Rattle.queue_load.proofs.slices.first_writes.Goals as goal

-- what the first worker knows is what is known
goes_first : {S P : Type 0} (a b : JournalWriter) (old new : Option (List ℕ)) (worked : List (EndedWorker S P)) (w v : EndedWorker S P) → slice_get worked 0 ≡ Some w
    → GoesOn a b old new w.member.pen.known v.member.pen.known → GoesOn a b old new (known_then worked) (known_then (set worked 0 v))
goes_first a b old new [] w v e h = absurd (cc)
goes_first a b old new (x ∷ xs) w v e h =
    let same : w ≡ x = cc in
    subst (λ (y : EndedWorker _ _). GoesOn a b old new y.member.pen.known v.member.pen.known) same h

pub write_down-requires : goal.write_down-requires
write_down-requires g c =
    let some : 0 < length c.args.worked.now.items = search rules in
    record { queue = c.requires.here.each 0 c.index_mut.result.now (first_of c.args.worked.now.items c.index_mut.result.now c.index_mut.ensures.value some) }

pub returns-clause-len : goal.returns-clause-len
returns-clause-len g c = simp length-set

pub returns-clause-writes : goal.returns-clause-writes
returns-clause-writes g c =
    let w = c.index_mut.result.now in
    let contents = g.W.Write.contents in
    let some : 0 < length c.args.worked.now.items = search rules in
    goes_first c.args.writing c.write_down.result (contents c.args.writer.now) (contents c.write_down.new.writer) c.args.worked.now.items w (record w { member = c.write_down.new.member })
    (first_of c.args.worked.now.items w c.index_mut.ensures.value some) c.write_down.ensures.writes

pub returns-clause-come : goal.returns-clause-come
returns-clause-come g c =
    let w = c.index_mut.result.now in
    let some : 0 < length c.args.worked.now.items = search rules in
    come_after c.args.queue.now c.args.worked.now.items _ w (record w { member = c.write_down.new.member }) (first_of c.args.worked.now.items w c.index_mut.ensures.value some) refl refl refl c.write_down.ensures.stays
