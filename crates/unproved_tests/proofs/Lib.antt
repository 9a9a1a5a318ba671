pub mod OrderedSerials
