pub mod WordTest
