pub mod FlagRefines
