pub mod CardText
