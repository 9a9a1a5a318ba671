-- A line that begins with `push ` is read in one way.
use Rattle.std.proofs.Common.{◌≡◌, ℕ, Bool, List, get_or, codes, Result, Ok, Err, IfOk, IfErr, sym, ◌∙◌, ap, subst, arith}
use Rattle.std.proofs.lemmas.List.{append_cancel_left}
use Rattle.pq_types.specs.Item.{Item}
use Rattle.queue_texts.specs.declared.number.NumberError.{NumberError}
use Rattle.queue_texts.specs.declared.number.NumberError.TheVariants as number
use Rattle.pq_types.specs.Asked.{Request}
use Rattle.pq_types.specs.declared.request.Request.TheVariants.{Push, Pop, Least}
use Rattle.queue_texts.specs.declared.command.ScriptError.{ScriptError}
use Rattle.queue_texts.specs.declared.command.ScriptError.TheVariants.{UnknownCommand, ItemOutOfRange, NotANumber}
use Rattle.queue_texts.specs.ItemText.{IsReadAs}
use Rattle.queue_texts.specs.Command.{PushesText, Spells, IsRefusedFor, IsReadAs as IsCommand, IsTheCommand}
use Rattle.queue_texts.proofs.Items.{reads_once}

-- what a push is read as, where its text is read so
abbrev pub push_as : Result Item NumberError → Result Request ScriptError
push_as (Ok x) = Ok (Push x)
push_as (Err number.NotANumber) = Err NotANumber
push_as (Err number.OutOfRange) = Err ItemOutOfRange

module _ (wide : Bool) (line text : List ℕ) (r : Result Item NumberError) (begins : PushesText line text) (read : IsReadAs wide text r) where
  same_text : (other : List ℕ) → PushesText line other → other ≡ text
  same_text other e = append_cancel_left (codes "push ") other text (sym e ∙ begins)

  read_so : (other : List ℕ) (s : Result Item NumberError) → PushesText line other → IsReadAs wide other s → push_as r ≡ push_as s
  read_so other s e k = ap push_as (reads_once wide text r s read (subst (λ t. IsReadAs wide t s) (same_text other e) k))

  -- it spells what it is read as
  pub push_spells : (q : Request) → Spells wide line q → push_as r ≡ Ok q
  push_spells (Push x) (other, e, spelled, small) = read_so other (Ok x) e (spelled, small)
  push_spells Pop e = absurd (omega (arith, ap (λ l. get_or l 1 0) (sym begins ∙ e)))
  push_spells Least e = absurd (omega (arith, ap (λ l. get_or l 1 0) (sym begins ∙ e)))

  -- it is refused for what it is read as
  pub push_refused : (e : ScriptError) → IsRefusedFor wide line e → push_as r ≡ Err e
  push_refused UnknownCommand unknown = absurd (unknown.2 text begins)
  push_refused ItemOutOfRange (other, p, v, e, spelled, out) = read_so other (Err number.OutOfRange) e (p, v, spelled, out)
  push_refused NotANumber (other, e, none) = read_so other (Err number.NotANumber) e none

-- a push is what its text is read as
push_read : (wide : Bool) (line text : List ℕ) (r : Result Item NumberError) → PushesText line text → IsReadAs wide text r → IsCommand wide line (push_as r)
push_read wide line text (Ok x) begins read = (text, begins, read.0, read.1)
push_read wide line text (Err number.NotANumber) begins read = (text, begins, read)
push_read wide line text (Err number.OutOfRange) begins (p, v, spelled, out) = (text, p, v, begins, spelled, out)

pub the_push : (wide : Bool) (text : List ℕ) (r : Result Item NumberError) → IsReadAs wide text r → (line : List ℕ) → PushesText line text
    → IsTheCommand wide line (push_as r)
the_push wide text r read line begins =
    record { read = push_read wide line text r begins read; spells = push_spells wide line text r begins read; refused = push_refused wide line text r begins read }

-- the same as `read_command` tells it
pub command_ok : (wide : Bool) (line : List ℕ) (r : Result Request ScriptError) → IsTheCommand wide line r → IfOk r (λ q. Spells wide line q)
command_ok wide line (Ok q) h = h.read
command_ok wide line (Err e) h = tt

pub command_err : (wide : Bool) (line : List ℕ) (r : Result Request ScriptError) → IsTheCommand wide line r → IfErr r (λ e. IsRefusedFor wide line e)
command_err wide line (Ok q) h = tt
command_err wide line (Err e) h = h.read
