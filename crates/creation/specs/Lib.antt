pub mod Creator
