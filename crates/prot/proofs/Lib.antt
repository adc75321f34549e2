pub mod Prot
