-- What a handle holds says the same to every thread.
use base.Shift.{Keyless}
use denote.RawPtr.{Ptr}
use denote.Builtin.{RawPtr, u64}
use denote.RattleType.{RattleType}
use denote.Enum.Enum.{Enum}
use denote.Enum.Declared as enum
use denote.Param.Send.{IsSend, EachSend, owning_send, recorded_send, enum_send, view_send, sendable}
use denote.Param.SendFields.{declared_send}
use Rattle.std.specs.Prelude.{Option, Some, None}
use Rattle.core.specs.declared.cmp.Ord as Ord
use Rattle.core.specs.declared.cmp.PartialEq as PartialEq
use Rattle.core.specs.declared.cmp.PartialOrd as PartialOrd
use Rattle.core.specs.contracts.clone.Clone+copy.TheImpl as clone
use Rattle.std.specs.contracts.alloc.Global as global
use Rattle.std.specs.contracts.impls.GlobalAllocator.TheImpl as allocator
use Rattle.std.proofs.Crossing.{frees, send, Box-send, Vec-send}
use Rattle.std_alloc.proofs.SendSync.{lies}
use Rattle.std.specs.contracts.prelude.U64Eq.TheImpl as wide_equivalence
use Rattle.std.specs.contracts.prelude.U64PartialEq.TheImpl as wide_equal
use Rattle.pq_types.specs.contracts.part.U64Part.TheImpl as wide_part
use Rattle.pq_types.proofs.journal.Line.TheSendSync as line
use Rattle.pq_book.specs.contracts.entry.Entry as entry
use Rattle.pq_book.specs.contracts.entry.EntryExact.TheImpl as exactness
use Rattle.pq_book.specs.contracts.entry.EntryHasTicket.TheImpl as ticketed
use Rattle.pq_book.specs.contracts.entry.EntryOrd.TheImpl as order
use Rattle.pq_book.specs.contracts.entry.EntryPartialEq.TheImpl as equality
use Rattle.pq_book.specs.contracts.entry.EntryPartialOrd.TheImpl as partial_order
use Rattle.pq_book.proofs.entry.Entry.TheSendSync as entry_sent
use Rattle.leftist_heap.specs.declared.exact.Exact as Exact
use Rattle.leftist_heap.specs.declared.store.Store as Store
use Rattle.leftist_heap.specs.declared.ticket_store.HasTicket as HasTicket
use Rattle.queue_pool.proofs.pool.Pool.TheSendSync as pool
use Rattle.queue_pool.proofs.shared.SharedHandle.TheSendSync as shared
use Rattle.queue_texts.specs.contracts.owned.Owned as owned_row
use Rattle.queue_texts.specs.contracts.replay.Replay as replay_row
use Rattle.queue_texts.proofs.owned.Owned.TheSendSync as owned
use Rattle.queue_texts.proofs.replay.Replay.TheSendSync as replay
use Rattle.queue_c.specs.Boxes.{heap, held_if}
use Rattle.any_heap.specs.contracts.any_heap.AnyHeap as any_heap
use Rattle.any_heap.proofs.any_heap.AnyHeap.TheSendSync as any_heap_sent
use Rattle.queue_c.specs.contracts.handle.Handle as handle
use Rattle.queue_c.specs.contracts.contents.Contents as held
use Rattle.queue_c.specs.contracts.boxed_replay.BoxedReplay as boxed_replay
use Rattle.queue_c.specs.contracts.boxed_replay.BoxedReplay.TheInside as inside_replay
use Rattle.queue_c.specs.contracts.journal.Journal as journal
use Rattle.queue_c.specs.contracts.journal.Journal.TheInside as inside_journal

-- an enum, by its variants
by_variants : (T : enum.Declared) → EachSend (enum.shape T).variants → IsSend (enum.row T)
by_variants T s = recorded_send (Enum (enum.shape T)) T.D T.to T.to_one (enum_send (enum.shape T) s)

number_sent : IsSend u64
number_sent = search sendable

-- an item that waits in the heap
abbrev row : RattleType
row = entry.the_row u64 wide_part.ghosts wide_equal.ghosts

row_sent : IsSend row
row_sent = search (number_sent, entry_sent.the_send, sendable) depth 40

-- how such items are ordered and compared
abbrev ordered : Ord.Ghosts row.Denot
ordered = order.ghosts u64 wide_part.ghosts wide_part.dict (clone.ghosts u64) (clone.dict u64) wide_equivalence.ghosts wide_equivalence.dict wide_equal.ghosts wide_equal.dict

abbrev compared : PartialEq.Ghosts row.Denot
compared = equality.ghosts u64 wide_part.ghosts wide_part.dict (clone.ghosts u64) (clone.dict u64) wide_equivalence.ghosts wide_equivalence.dict wide_equal.ghosts wide_equal.dict

abbrev half_ordered : PartialOrd.Ghosts row.Denot
half_ordered = partial_order.ghosts u64 wide_part.ghosts wide_part.dict (clone.ghosts u64) (clone.dict u64) wide_equivalence.ghosts wide_equivalence.dict wide_equal.ghosts wide_equal.dict

-- their ranks
abbrev ranks : Exact.Ghosts row.Denot
ranks = exactness.ghosts u64 wide_part.ghosts wide_part.dict (clone.ghosts u64) (clone.dict u64) wide_equivalence.ghosts wide_equivalence.dict wide_equal.ghosts wide_equal.dict

-- their tickets
abbrev tickets : HasTicket.Ghosts row.Denot
tickets = ticketed.ghosts u64 wide_part.ghosts wide_part.dict (clone.ghosts u64) (clone.dict u64) wide_equivalence.ghosts wide_equivalence.dict wide_equal.ghosts wide_equal.dict

-- the heap
abbrev heap_row : RattleType
heap_row = any_heap.the_row row tickets ranks ordered compared half_ordered

heap_sent : IsSend heap_row
heap_sent = any_heap_sent.the_send row tickets ranks ordered compared half_ordered row_sent

-- each part whole, since a `search` that goes down through them runs out of steps
inside_journal_sent : IsSend inside_journal.the_row
inside_journal_sent = declared_send inside_journal.the_type (number_sent, (Vec-send _ (line.the_send u64 wide_part.ghosts wide_equal.ghosts number_sent), (heap_sent, tt)))

journal_sent : IsSend journal.the_row
journal_sent = view_send inside_journal.the_row _ _ _ _ inside_journal_sent

-- a replay, by what its store has; `search` finds that, where an argument `_` stays open
replay_sent : (g : Store.Ghosts heap_row.Denot row.Denot) → IsSend (owned_row.the_row (replay_row.the_row heap_row global.the_row u64 g allocator.ghosts wide_part.ghosts wide_equal.ghosts))
replay_sent g = owned.the_send _ (replay.the_send heap_row global.the_row u64 g allocator.ghosts wide_part.ghosts wide_equal.ghosts heap_sent send number_sent frees)

inside_replay_sent : IsSend inside_replay.the_row
inside_replay_sent = declared_send inside_replay.the_type (search (Box-send, replay_sent), tt)

boxed_replay_sent : IsSend boxed_replay.the_row
boxed_replay_sent = view_send inside_replay.the_row _ _ _ _ inside_replay_sent

pub held_sent : IsSend held.the_row
held_sent =
    by_variants held.the_type (
      tt,
      (
        (pool.the_send heap_row u64 _ wide_part.ghosts (clone.ghosts u64) wide_equivalence.ghosts wide_equal.ghosts heap_sent number_sent, tt),
        (
          (shared.the_send heap_row u64 _ wide_part.ghosts (clone.ghosts u64) wide_equivalence.ghosts wide_equal.ghosts heap_sent number_sent, (number_sent, tt)),
          ((journal_sent, tt), ((boxed_replay_sent, tt), tt)),
        ),
      ),
    )

pointer_sent : IsSend RawPtr
pointer_sent = search sendable

-- the boxed value, and the right to free its block
boxed_keyless : (p : Ptr) (k : Option held.the_row.Denot) → Keyless (held_if held.the_row p k)
boxed_keyless p None = tt
boxed_keyless p (Some x) = (lies held.the_row held_sent p x, frees.frees heap _ p)

pub handle_sent : IsSend handle.the_row
handle_sent = owning_send handle.the_type (pointer_sent, tt) (λ h. boxed_keyless h.at h.value) (λ k h w. tt)
