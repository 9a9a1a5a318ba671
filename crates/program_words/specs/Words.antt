-- What the words of the command line ask for.
use Rattle.std.specs.Prelude.{◌≡◌, ◌≢◌, ℕ, ◌≤◌, ◌⊎◌, Bool, List, Option, Some, None, option_and_then, codes}
use Rattle.clap.specs.Words.{matched_of}
use Rattle.clap.specs.declared.error.kind.ErrorKind.{ErrorKind}
use Rattle.clap.specs.declared.error.kind.ErrorKind.TheVariants.{DisplayHelp, DisplayVersion}
use Rattle.clap.specs.declared.parser.matches.Found.{Found}
use Rattle.clap.specs.declared.parser.matches.ValueSource.TheVariants.{CommandLine}
use Rattle.leftist_heap.specs.declared.any_store.StoreKind.{StoreKind}
use Rattle.leftist_heap.specs.declared.any_store.StoreKind.TheVariants.{Leftist, Array, Sorted}
use Rattle.pq_types.specs.declared.journal.TheConstants.{MOST_LINES, GREATEST_NUMBER}
use Rattle.pq_book.specs.Book.{IsRoom}
use Rattle.program_words.specs.Lines.{IsShort}
use Rattle.program_words.specs.declared.words.Job.{Job}
use Rattle.program_words.specs.declared.words.Job.TheVariants.{Seq, Walk, Load, Audit}
use Rattle.program_words.specs.declared.words.Usage.{Usage}
use Rattle.program_words.specs.declared.words.Usage.TheVariants.{Help, Refused, PopsExceedPushes}
use Rattle.program_words.specs.declared.words.Usage.TheVariants.{LinesOfLasting, JournalOfLasting, NoMemory}

-- a job whose numbers are in their ranges: `seq` has a journal of 1 to 1,048,576 lines, or one that lasts; those of a load are,
-- whatever its plan
abbrev pub IsRunnable : Job → Type 0
IsRunnable (Seq lines store wide) = IsRoom lines ⊎ (lines ≡ GREATEST_NUMBER)
IsRunnable (Walk scans) = Unit {0}
IsRunnable (Load plan store wide) = Unit {0}
IsRunnable (Audit wide) = Unit {0}

-- it is `seq` with a journal that has room for so many lines
abbrev pub HasRoom : ℕ → Job → Type 0
HasRoom room (Seq lines store wide) = lines ≡ room
HasRoom room (Walk scans) = ⊥
HasRoom room (Load plan store wide) = ⊥
HasRoom room (Audit wide) = ⊥

-- it is `seq`, `load` or `audit` with wide items, or with narrow ones
abbrev pub IsOfWidth : Bool → Job → Type 0
IsOfWidth asked (Seq lines store wide) = wide ≡ asked
IsOfWidth asked (Walk scans) = ⊥
IsOfWidth asked (Load plan store wide) = wide ≡ asked
IsOfWidth asked (Audit wide) = wide ≡ asked

-- whoever runs the job has the whole journal of its queue at the end; a walk and an audit have no queue
abbrev pub IsKeptWhole : Job → Type 0
IsKeptWhole (Seq lines store wide) = lines ≤ MOST_LINES
IsKeptWhole (Walk scans) = Unit {0}
IsKeptWhole (Load plan store wide) = IsShort plan
IsKeptWhole (Audit wide) = Unit {0}

-- the word of the command that asks for the job
abbrev pub job_word : Job → List ℕ
job_word (Seq lines store wide) = codes "seq"
job_word (Walk scans) = codes "walk"
job_word (Load plan store wide) = codes "load"
job_word (Audit wide) = codes "audit"

-- it is a load
abbrev pub IsOfLoad : Job → Type 0
IsOfLoad (Seq lines store wide) = ⊥
IsOfLoad (Walk scans) = ⊥
IsOfLoad (Load plan store wide) = Unit {0}
IsOfLoad (Audit wide) = ⊥

-- the journal of the job may be written to this file: it is kept whole, or it is that of a load, and the file isn't standard
-- output
abbrev pub MayBeWritten : Job → List ℕ → Type 0
MayBeWritten job file = IsKeptWhole job ⊎ (IsOfLoad job × (file ≢ codes "-"))

-- the words give the option of this name a value, and not its default alone
abbrev pub IsGiven : Found → List ℕ → Type 0
IsGiven found name = option_and_then (λ a. a.source) (matched_of found name) ≡ Some CommandLine

-- the word of each kind of store
abbrev pub store_word : StoreKind → List ℕ
store_word Leftist = codes "leftist"
store_word Array = codes "array"
store_word Sorted = codes "sorted"

-- this kind of store is asked for: by its word, or, where no word is given, the leftist heap
abbrev pub AsksForStore : Option (List ℕ) → StoreKind → Type 0
AsksForStore None kind = kind ≡ Leftist
AsksForStore (Some word) kind = word ≡ store_word kind

-- the job keeps its items in the store that is asked for; a walk and an audit keep none
abbrev pub KeepsIn : Option (List ℕ) → Job → Type 0
KeepsIn word (Seq lines store wide) = AsksForStore word store
KeepsIn word (Walk scans) = Unit {0}
KeepsIn word (Load plan store wide) = AsksForStore word store
KeepsIn word (Audit wide) = Unit {0}

-- the exit status where no job is run: help that was asked for, words that are refused, memory that
-- is
abbrev pub usage_status : Usage → ℕ
usage_status (Help text) = 0
usage_status (Refused text) = 2
usage_status PopsExceedPushes = 2
usage_status LinesOfLasting = 2
usage_status JournalOfLasting = 2
usage_status NoMemory = 4

-- the error asks for help or the version
abbrev pub AsksForHelp : ErrorKind → Type 0
AsksForHelp kind = (kind ≡ DisplayHelp) ⊎ (kind ≡ DisplayVersion)

-- why no job is run where the words end in an error of this kind: help is told where it was asked for, and else the words are
-- refused; or memory for the text is
abbrev pub IsUsageOf : ErrorKind → Usage → Type 0
IsUsageOf kind (Help text) = AsksForHelp kind
IsUsageOf kind (Refused text) = ¬ AsksForHelp kind
IsUsageOf kind PopsExceedPushes = ⊥
IsUsageOf kind LinesOfLasting = ⊥
IsUsageOf kind JournalOfLasting = ⊥
IsUsageOf kind NoMemory = Unit {0}
